-- Each way through a function of the walk, as one law over plain values. A need cites one of them, with `_` for what the goal shows.
-- Assumes nothing.
use Prim.Native.Nat.{ℕ, ◌+◌, ◌-◌, ◌<◌, ◌≤◌}
use mathlib.Core.Path.{◌≡◌, refl, sym, ap, subst, ◌∙◌}
use mathlib.Core.Bool.{true, false}
use mathlib.Core.List.{List}
use lib.ListN.{length}
use Rattle.number.specs.declared.token.Counts.{Counts}
use Rattle.element.specs.Element.{is_type_place}
use Rattle.element.specs.declared.Place.{Place}
use Rattle.grammar.specs.Limits.{max_nodes}
use Rattle.grammar.specs.Judge.{Out, many, node}
use Rattle.grammar.proofs.Bounds.{Ends}
use Rattle.grammar.proofs.Sound.{Holds}
use Rattle.opening.specs.Open.{Opened, head_of, open_at}
use Rattle.opening.specs.Lead.{Begun, lead_at}
use Rattle.opening.specs.Means.{record_of, sealed, series, signature_of, on_lead, on_open}
use Rattle.opening.specs.declared.Head.{Head}
use Rattle.opening.specs.declared.signatures.Lead.{Lead}
use Rattle.opening.specs.declared.types.Open.{Open}
use Rattle.opening.proofs.Opens.{series-same, one-series, node-open, is_shut, open_begins, open_one, node-lead, lead-begins, lead-types}
use Rattle.opening.specs.Table.{put_of, Sealed}
use Rattle.opening.specs.Walk.{Walked}
use Rattle.std.specs.Prelude.{Result, Ok, Err}
use Rattle.answer.specs.Refusal.{number_of}
use Rattle.answer.specs.declared.refusal.Fault.{Fault}
use Rattle.opening.specs.End.{Walk, Next, Stop, ended}
use Rattle.grammar.specs.declared.Position.{Position}
use Rattle.opening.proofs.Walks.{seal_put, seal_kept, walked_fault, walked_is, walked_as, found, still, walked_seal, walked_next}
use Rattle.walk.specs.Series.{end_of, WalkedSeries}
use Rattle.walk.specs.declared.Series.{Series}

-- ---- types_at

module _ (d : ℕ) (s : List ℕ) (counts : Counts) (p : Place) (at n : ℕ) (t : is_type_place p ≡ true) (y : Opened) (e : y ≡ open_at d counts s p at n) where
  opened-as : (x : Opened) → y ≡ x → node d s counts p at n ≡ on_open x (node (d - 1) s) (d - 1) s counts at n
  opened-as x g = node-open s counts p at n d t ∙ ap (λ (z : Opened). on_open z (node (d - 1) s) (d - 1) s counts at n) (sym e ∙ g)

  pub type_stop : (f : Fault) (o : List ℕ) → y ≡ Err f → Walked (node d s counts p at n) n (Stop (number_of f.refusal) f.place) o o
  unfolding on_open
  type_stop f o g = walked_fault _ n (number_of f.refusal) f.place o (opened-as _ g)

  -- where it is not refused, there is a byte and room for a node
  pub open_bounds : (x : Opened) → y ≡ x → is_shut x ≡ false → (0 < d) × (at < length s) × (n < max_nodes)
  open_bounds x g f = open_begins s counts p at n d x (sym e ∙ g) f

  pub leaf-done : (h : Head) (next : ℕ) → y ≡ Ok (Open.Leaf h next) → (r : Walk) (o o₁ : List ℕ) → Sealed (Next next (n + 1)) n h at r o o₁ → Walked (node d s counts p at n) n r o o₁
  unfolding on_open
  leaf-done h next g r o o₁ z = walked_is _ _ n r o o₁ (opened-as _ g) (walked_seal _ n h at _ r o o o₁ (still next (n + 1) (n + 1) o) z)

  -- a node with one child is that child's outcome, sealed
  module _ (h : Head) (q : Place) (next : ℕ) (g : y ≡ Ok (Open.One h q next)) where
    pub one-bounds : (0 < d) × (at < length s) × (n < max_nodes) × (is_type_place q ≡ true)
    one-bounds = let b = open_bounds _ g refl in (b.0, b.1, b.2, open_one s counts p at n d t (sym e ∙ g))

    pub one-node : node d s counts p at n ≡ sealed (node (d - 1) s counts q next (n + 1)) h at
    unfolding on_open
    one-node = opened-as _ g

  -- a list, FNPTR, an array
  pub below_node : (x : Opened) → y ≡ x → (r : Walk) (o o₁ : List ℕ) → Walked (on_open x (node (d - 1) s) (d - 1) s counts at n) n r o o₁ → Walked (node d s counts p at n) n r o o₁
  below_node x g r o o₁ w = walked_is _ _ n r o o₁ (opened-as x g) w

-- ---- the end of `types_at`

pub series-ended : (o : Out) (k n e m i : ℕ) (o₀ o₁ : List ℕ) → i ≡ k → Walked o n (Next e m) o₀ o₁ → WalkedSeries o k n (Ok (record { end = record { at = e; node = m }; items = i })) o₀ o₁
unfolding end_of
series-ended o k n e m i o₀ o₁ z x = record { walked = x; counted = λ s q. counts s q }
  where
    counts : (s : Series) → ◌≡◌ {A = Result Series Fault} (Ok (record { end = record { at = e; node = m }; items = i })) (Ok s) → s.items ≡ k
    counts s q = let y : s ≡ record { end = record { at = e; node = m }; items = i } = cc in ap (λ (u : Series). u.items) y ∙ z

pub series-stopped : (o : Out) (k n : ℕ) (f : Fault) (o₀ o₁ : List ℕ) → Walked o n (Stop (number_of f.refusal) f.place) o₀ o₁ → WalkedSeries o k n (Err f) o₀ o₁
unfolding end_of
series-stopped o k n f o₀ o₁ x = record { walked = x; counted = λ s q. absurd cc }

pub series-as : (o : Out) (k n : ℕ) (r r' : Result Series Fault) (o₀ o₁ : List ℕ) → r ≡ r' → WalkedSeries o k n r' o₀ o₁ → WalkedSeries o k n r o₀ o₁
series-as o k n r r' o₀ o₁ e h = subst (λ (x : Result Series Fault). WalkedSeries o k n x o₀ o₁) (sym e) h

-- ---- what stands below a node is walked: w is how it ended

module _ (o : Out) (n : ℕ) (h : Head) (at : ℕ) (w : Walk) (o₀ o₁ : List ℕ) (x : Walked o (n + 1) w o₀ o₁) where
  pub below-cut : (c p : ℕ) → w ≡ Stop c p → Walked (sealed o h at) n (Stop c p) o₀ o₁
  below-cut c p g = walked_seal o n h at w _ o₀ o₁ o₁ x (seal_kept w n h at c p o₁ g)

  module _ (e m : ℕ) (g : w ≡ Next e m) where
    pub below-few : Holds (Ends (n + 1)) o → m ≤ max_nodes
    below-few f = walked_next o (n + 1) e m o₀ o₁ f (found o (n + 1) w _ o₀ o₁ g x)

    pub below-done : (o₂ : List ℕ) → o₂ ≡ put_of o₁ n (record_of h at m) → Walked (sealed o h at) n (Next e m) o₀ o₂
    below-done o₂ q = walked_seal o n h at _ _ o₀ o₁ o₂ (found o (n + 1) w _ o₀ o₁ g x) (seal_put n h at e m q)

-- .. with the result and the table by other names
pub walked_to : (o : Out) (n : ℕ) (r : Result Position Fault) (p q : Position) (o₀ o₁ o₂ : List ℕ) → o₂ ≡ o₁ → q ≡ p → r ≡ Ok p → Walked o n (ended r) o₀ o₁ → Walked o n (Next q.at q.node) o₀ o₂
unfolding ended
walked_to o n r p q o₀ o₁ o₂ e f g x = walked_as o n _ _ o₀ o₁ o₂ e (ap (λ (y : Position). Next y.at y.node) f) (found o n _ _ o₀ o₁ (ap ended g) x)

-- ---- list_at, type_at

module _ (f : ℕ → ℕ → Out) (k next n : ℕ) (t : Result Series Fault) (o₀ o₁ : List ℕ) (x : WalkedSeries (series f f k next n) k n t o₀ o₁) where
  pub listed : Walked (many f k next n) n (end_of t) o₀ o₁
  listed = walked_is _ _ n _ o₀ o₁ (sym (series-same f k next n)) x.walked

pub one-walked : (f : ℕ → ℕ → Out) (at n : ℕ) (t : Result Series Fault) (o o₁ : List ℕ) → WalkedSeries (series f f 1 at n) 1 n t o o₁ → Walked (f at n) n (end_of t) o o₁
one-walked f at n t o o₁ x = walked_is _ _ n _ o o₁ (sym (one-series f at n)) x.walked

-- ---- method_at and signature_at

pub signature-bounds : (d : ℕ) (s : List ℕ) (p : Place) (at n : ℕ) → is_type_place p ≡ false → (y : Begun) → y ≡ lead_at d s p at n → (l : Lead) → y ≡ Ok l
    → (0 < d) × (at < length s) × (n < max_nodes) × (is_type_place l.first ≡ true) × (is_type_place l.rest ≡ true)
signature-bounds d s p at n t y e l g =
    let b = lead-begins s p at n d (sym e ∙ g) in
    let f = lead-types s p at n d t (sym e ∙ g) in
    (b.0, b.1, b.2, f.0, f.1)

module _ (d : ℕ) (s : List ℕ) (counts : Counts) (p : Place) (at n : ℕ) (f : is_type_place p ≡ false) (y : Begun) (e : y ≡ lead_at d s p at n) where
  led_as : (x : Begun) → y ≡ x → node d s counts p at n ≡ on_lead x (node (d - 1) s) counts at n
  led_as x g = node-lead s counts p at n d f ∙ ap (λ (z : Begun). on_lead z (node (d - 1) s) counts at n) (sym e ∙ g)

  pub signature-stop : (r : Fault) (o : List ℕ) → y ≡ Err r → Walked (node d s counts p at n) n (Stop (number_of r.refusal) r.place) o o
  unfolding on_lead
  signature-stop r o g = walked_fault _ n (number_of r.refusal) r.place o (led_as _ g)

  pub signature-led : (l : Lead) → y ≡ Ok l → (w : Walk) (o o₁ : List ℕ) → Walked (signature_of (node (d - 1) s) counts l at n) n w o o₁ → Walked (node d s counts p at n) n w o o₁
  unfolding on_lead
  signature-led l g w o o₁ x = walked_is _ _ n w o o₁ (led_as _ g) x

-- ---- signature_types_at

pub signature-done : (d : ℕ) (s : List ℕ) (counts : Counts) (l : Lead) (at n : ℕ) (w : Walk) (o o₁ : List ℕ)
    → Walked (sealed (series (node d s counts l.first) (node d s counts l.rest) l.count l.next (n + 1)) (head_of l.kind l.a l.b l.count) at) n w o o₁
    → Walked (signature_of (node d s) counts l at n) n w o o₁
unfolding signature_of
signature-done d s counts l at n w o o₁ x = x
