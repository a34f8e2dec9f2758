-- A node's code byte, from facts about the bytes: one law for each way out of what finds it, and of what is read behind it.
-- Assumes nothing.
use Prim.Native.Nat.{ℕ, ◌≤◌, ◌<◌}
use native.Mathlib.Omega.{arith}
use mathlib.Core.Path.{◌≡◌, refl, sym, ap, ◌∙◌}
use mathlib.Core.Bool.{Bool, true, false, cond}
use mathlib.Core.List.{List}
use lib.ListN.{length, get_or}
use lib.Dec.{ltb, leb}
use borrow.Author.Tests.{ltb-true, leb-true, lt-ltb, le-ltb, le-leb}
use Rattle.element.specs.Element.{allowed, form_of}
use Rattle.element.specs.declared.Place.{Place}
use Rattle.grammar.specs.Limits.{max_nodes}
use Rattle.number.specs.declared.Number.{Number}
use Rattle.number.specs.Checked.{Checked}
use Rattle.opening.specs.Code.{placed, coded, crowded_of, code_at}
use Rattle.std.specs.Prelude.{Result, Ok, Err}
use Rattle.answer.specs.Refusal.{fault_at}
use Rattle.answer.specs.declared.refusal.Fault.{Fault}
use Rattle.answer.specs.declared.refusal.Refusal.{Refusal}
use Rattle.answer.specs.declared.refusal.Refusal.TheVariants.{BytesEnd, ByteNotAllowed, TooDeep, TooManyNodes}

module _ (d : ℕ) (s : List ℕ) (p : Place) (at n : ℕ) where
  pub code_none : length s ≤ at → Err (fault_at BytesEnd at) ≡ code_at d s p at n
  unfolding code_at
  code_none h = rw (le-ltb at (length s) h)

  module _ (h : at < length s) where
    -- no room for its node: y is what `crowded` gave
    pub code_deep : (y : Refusal) → d ≡ 0 → y ≡ crowded_of p (get_or s at 0) TooDeep → Err (fault_at y at) ≡ code_at d s p at n
    unfolding code_at
    code_deep y z e = rw (lt-ltb at (length s) h, z, e)

    pub code_full : (y : Refusal) → (d ≡ 0 → ⊥) → max_nodes ≤ n → y ≡ crowded_of p (get_or s at 0) TooManyNodes → Err (fault_at y at) ≡ code_at d s p at n
    unfolding code_at
    code_full y z m e = let i : 1 ≤ d = omega arith in rw (lt-ltb at (length s) h, le-leb 1 d i, le-ltb n max_nodes m, e)

    -- room for its node
    pub code_byte : (d ≡ 0 → ⊥) → n < max_nodes → Ok (get_or s at 0) ≡ code_at d s p at n
    unfolding code_at
    code_byte z m = let i : 1 ≤ d = omega arith in rw (lt-ltb at (length s) h, le-leb 1 d i, lt-ltb n max_nodes m)

-- what was read, and that its place is added: y is what a check gave, z what `placed` made of it
module _ (y : Checked) (from : ℕ) {z : Result Number Fault} (e : z ≡ placed y from) where
  pub placed_ok : {n : Number} → z ≡ Ok n → y ≡ Ok n
  placed_ok {n} g = go y e g
    where
      go : (y : Checked) → z ≡ placed y from → z ≡ Ok n → y ≡ Ok n
      go (Ok m) e g = let q : m ≡ n = cc in ap Ok q
      go (Err c) e g = absurd cc

  pub placed_err : {f : Fault} → z ≡ Err f → (c : Refusal) × (y ≡ Err c) × (f ≡ fault_at c from)
  placed_err {f} g = go y e g
    where
      go : (y : Checked) → z ≡ placed y from → z ≡ Err f → (c : Refusal) × (y ≡ Err c) × (f ≡ fault_at c from)
      go (Ok m) e g = absurd cc
      go (Err c) e g = let q : f ≡ fault_at c from = cc in (c, refl, q)

-- a code byte is not both there and refused
clash : {X : Type 0} {f : Fault} {b : ℕ} → ◌≡◌ {A = Result ℕ Fault} (Err f) (Ok b) → X
clash q = absurd cc

module _ {A : Type 0} (d : ℕ) (s : List ℕ) (p : Place) (at n : ℕ) (x : Result A Fault) where
  -- what goes on says that there is a byte, and room for its node
  pub coded-begins : (test : Result A Fault → Bool) → ((f : Fault) → test (Err f) ≡ true) → test (coded d s p at n x) ≡ false → (0 < d) × (at < length s) × (n < max_nodes)
  coded-begins test f e =
      go (ltb at (length s)) (allowed (form_of p (get_or s at 0))) (leb 1 d) (ltb n max_nodes) (ltb-true _ _) (leb-true _ _) (ltb-true _ _) e
    where
      none : {X : Type 0} (r : Fault) → test (Err r) ≡ false → X
      none r q = let z = f r in absurd cc

      go : (t u v w : Bool) → (t ≡ true → at < length s) → (v ≡ true → 1 ≤ d) → (w ≡ true → n < max_nodes)
          → test (cond t (cond u (cond v (cond w x (Err (fault_at TooManyNodes at))) (Err (fault_at TooDeep at))) (Err (fault_at ByteNotAllowed at))) (Err (fault_at BytesEnd at))) ≡ false → (0 < d) × (at < length s) × (n < max_nodes)
      go true true true true f g h q = (g refl, f refl, h refl)
      go true true true false f g h q = none (fault_at TooManyNodes at) q
      go true true false w f g h q = none (fault_at TooDeep at) q
      go true false v w f g h q = none (fault_at ByteNotAllowed at) q
      go false u v w f g h q = none (fault_at BytesEnd at) q

  -- what `code_at` gave is y
  module _ (y : Result ℕ Fault) (e : y ≡ code_at d s p at n) where
    pub coded-shut : (r : Fault) → y ≡ Err r → Err r ≡ coded d s p at n x
    unfolding code_at
    coded-shut r g = go (ltb at (length s)) (allowed (form_of p (get_or s at 0))) (leb 1 d) (ltb n max_nodes) (sym g ∙ e)
      where
        same : (k : Fault) → ◌≡◌ {A = Result ℕ Fault} (Err r) (Err k) → ◌≡◌ {A = Result A Fault} (Err r) (Err k)
        same k q = let z : r ≡ k = cc in ap Err z

        go : (t u v w : Bool) → Err r ≡ cond t (cond v (cond w (Ok (get_or s at 0)) (Err (fault_at (cond u TooManyNodes ByteNotAllowed) at))) (Err (fault_at (cond u TooDeep ByteNotAllowed) at))) (Err (fault_at BytesEnd at))
            → Err r ≡ cond t (cond u (cond v (cond w x (Err (fault_at TooManyNodes at))) (Err (fault_at TooDeep at))) (Err (fault_at ByteNotAllowed at))) (Err (fault_at BytesEnd at))
        go true true true true q = clash q
        go true true true false q = same _ q
        go true true false w q = same _ q
        go true false true true q = clash q
        go true false true false q = same _ q
        go true false false w q = same _ q
        go false u v w q = same _ q

    module _ (b : ℕ) (g : y ≡ Ok b) where
      -- the byte is there
      pub code_is : (at < length s) × (b ≡ get_or s at 0)
      unfolding code_at
      code_is = go (ltb at (length s)) (allowed (form_of p (get_or s at 0))) (leb 1 d) (ltb n max_nodes) (ltb-true _ _) (sym g ∙ e)
        where
          go : (t u v w : Bool) → (t ≡ true → at < length s) → Ok b ≡ cond t (cond v (cond w (Ok (get_or s at 0)) (Err (fault_at (cond u TooManyNodes ByteNotAllowed) at))) (Err (fault_at (cond u TooDeep ByteNotAllowed) at))) (Err (fault_at BytesEnd at))
              → (at < length s) × (b ≡ get_or s at 0)
          go true u true true f q = (f refl, cc)
          go true u true false f q = clash (sym q)
          go true u false w f q = clash (sym q)
          go false u v w f q = clash (sym q)

      pub coded-some : (o : Result A Fault) → o ≡ x → (allowed (form_of p (get_or s at 0)) ≡ false → x ≡ Err (fault_at ByteNotAllowed at)) → o ≡ coded d s p at n x
      unfolding code_at
      coded-some o i f = i ∙ go (ltb at (length s)) (allowed (form_of p (get_or s at 0))) (leb 1 d) (ltb n max_nodes) f (sym g ∙ e)
        where
          go : (t u v w : Bool) → (u ≡ false → x ≡ Err (fault_at ByteNotAllowed at))
              → Ok b ≡ cond t (cond v (cond w (Ok (get_or s at 0)) (Err (fault_at (cond u TooManyNodes ByteNotAllowed) at))) (Err (fault_at (cond u TooDeep ByteNotAllowed) at))) (Err (fault_at BytesEnd at))
              → x ≡ cond t (cond u (cond v (cond w x (Err (fault_at TooManyNodes at))) (Err (fault_at TooDeep at))) (Err (fault_at ByteNotAllowed at))) (Err (fault_at BytesEnd at))
          go true true true true f q = refl
          go true false v w f q = f refl
          go true true true false f q = clash (sym q)
          go true true false w f q = clash (sym q)
          go false u v w f q = clash (sym q)
