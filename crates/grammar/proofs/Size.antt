-- A derivation's numbers: as many records as node indices, and at most 1,024 nodes.
-- Assumes nothing.
use Prim.Native.Nat.{ℕ, zero, suc, ◌+◌, ◌≤◌}
use native.Mathlib.Omega.{arith}
use mathlib.Core.Path.{◌≡◌}
use mathlib.Core.List.{List, ◌∷◌, ◌++◌}
use lib.ListN.{length, length-append}
use Rattle.number.specs.declared.token.Counts.{Counts}
use Rattle.element.specs.declared.Place.{Place}
use Rattle.grammar.specs.Limits.{max_nodes}
use Rattle.grammar.specs.Table.{SIZE, LOW}
use Rattle.grammar.specs.Derives.{Span, Numeral, Many, none, more, Bound, bounded, Size, Low, parameters, Call, call, Step, leaf, named, variable, wrap, modified, counted, array, inst, method, generic, Derives}
use Rattle.grammar.specs.declared.Node.{Node}

-- as many records as indices, and no more than the limit
pub record Sized (n n' : ℕ) (rs : List Node) : Type 0 where
  pub count : n' ≡ n + length rs
  pub most : n' ≤ max_nodes

pub record Sizes (X : Span) : Type 0 where
  pub size : {at n at' n' : ℕ} {bs : List ℕ} {rs : List Node} → n ≤ max_nodes → X at n at' n' bs rs → Sized n n' rs

pub many-size : (X : Span) → Sizes X → {k at n at' n' : ℕ} {bs : List ℕ} {rs : List Node} → n ≤ max_nodes → Many X k at n at' n' bs rs → Sized n n' rs
many-size X f l none = record { count = omega arith; most = l }
many-size X f l (more {rs = rs} {ts = ts} x r) =
    let a = f.size l x in
    let b = many-size X f a.most r in
    record { count = omega (arith, length-append rs ts); most = b.most }

pub bound-size : (W : (v at next : ℕ) → List ℕ → Type 0) (kind d : ℕ) → Sizes (Bound W kind d)
bound-size W kind d = record { size = λ l x. one x }
  where
    one : {at n at' n' : ℕ} {bs : List ℕ} {rs : List Node} → Bound W kind d at n at' n' bs rs → Sized n n' rs
    one (bounded e m w) = record { count = omega arith; most = omega arith }

module _ (R : Counts → Place → Span) (below : (counts : Counts) (p : Place) → Sizes (R counts p)) where
  pub call-size : (counts : Counts) (p : Place) {k at n at' n' : ℕ} {bs : List ℕ} {rs : List Node} → n ≤ max_nodes → Call R counts p k at n at' n' bs rs → Sized n n' rs
  call-size counts p l (call {rs = rs} {ts = ts} w x (parameters r)) =
      let a = (below counts Place.RetType).size l x in
      let b = many-size (R counts p) (below counts p) a.most r in
      record { count = omega (arith, length-append rs ts); most = b.most }

  -- a node with what is below it
  over : {n n' : ℕ} {r : Node} {rs : List Node} → Sized (n + 1) n' rs → Sized n n' (r ∷ rs)
  over a = record { count = omega arith; most = a.most }

  step-size : (d : ℕ) (counts : Counts) {p : Place} {at n at' n' : ℕ} {bs : List ℕ} {rs : List Node} → Step R d counts p at n at' n' bs rs → Sized n n' rs
  step-size d counts (leaf c) = record { count = omega arith; most = omega (arith, c.room) }
  step-size d counts (named c w k) = record { count = omega arith; most = omega (arith, c.room) }
  step-size d counts (variable c w) = record { count = omega arith; most = omega (arith, c.room) }
  step-size d counts (wrap {q = q} c x) = over ((below counts q).size (omega (arith, c.room)) x)
  step-size d counts (modified {q = q} c w k x) = over ((below counts q).size (omega (arith, c.room)) x)
  step-size d counts (counted {q = q} c w l r) = over (many-size (R counts q) (below counts q) (omega (arith, c.room)) r)
  step-size d counts (array {rs = rs} {ts = ts} {us = us} c x rw₁ r₁ r₂ sw l₁ u lw l₂ v) =
      let a = (below counts Place.Type).size (omega (arith, c.room)) x in
      let b = many-size (Size d) (bound-size Numeral SIZE d) a.most u in
      let e = many-size (Low d) (bound-size Numeral LOW d) b.most v in
      over (record { count = omega (arith, length-append rs (ts ++ us), length-append ts us); most = e.most })
  step-size d counts (inst c w₁ w₂ tw k cw l r) = over (many-size (R counts Place.Type) (below counts Place.Type) (omega (arith, c.room)) r)
  step-size d counts (method {q = q} c x) = over (call-size counts q (omega (arith, c.room)) x)
  step-size d counts (generic {q = q} c w l x) = over (call-size counts q (omega (arith, c.room)) x)

pub derives_size : (d : ℕ) (counts : Counts) (p : Place) → Sizes (Derives d counts p)
derives_size zero counts p = record { size = λ l x. absurd x }
derives_size (suc d) counts p = record { size = λ l x. step-size (Derives d) (derives_size d) d counts x }
