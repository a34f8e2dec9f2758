-- What an opening means for the grammar: a node, as the judge has it, is what is found before its children, and then the children.
-- Assumes nothing.
use Prim.Native.Nat.{ℕ, zero, suc, ◌+◌, ◌-◌, ◌≤◌, ◌<◌}
use native.Mathlib.Omega.{arith}
use native.Mathlib.Numerals.{add-one}
use mathlib.Core.Path.{◌≡◌, refl, sym, ap, ◌∙◌}
use mathlib.Core.Bool.{Bool, true, false, cond, ◌&&◌, ◌||◌}
use mathlib.Core.List.{List, [], ◌∷◌, ◌++◌, append-nil}
use lib.ListN.{length, get_or}
use lib.Dec.{ltb, leb, eqb}
use borrow.Author.Tests.{leb-true, eqb-true}
use Rattle.number.specs.Number.{max_number}
use Rattle.number.specs.Checked.{Checked, checked_at, count_at}
use Rattle.number.specs.Token.{type_tags, mod_tags, token_at}
use Rattle.number.specs.declared.token.Counts.{Counts}
use Rattle.number.proofs.Checks.{checked-through, checked-test}
use Rattle.element.specs.Element.{allowed, within, bare, leads, entries, form_of, is_type_place}
use Rattle.element.specs.declared.Place.{Place}
use Rattle.element.specs.declared.Form.{Form}
use Rattle.element.specs.declared.Form.TheVariants.{Refused, Leaf, Named, Variable, Wrap, Modified, Counted, Array, Instance, Callable, Generic}
use Rattle.grammar.specs.Limits.{max_nodes}
use Rattle.grammar.specs.Table.{entry, kind_of}
use Rattle.grammar.specs.Judge.{Out, fault, done, bind, check, numbered, many, Reader, callable, body, opened, node}
use Rattle.element.proofs.Places.{is_fn_ptr_method, fn_ptr_method, type_form, signature_form, type_form-fits, signature_form-fits}
use Rattle.grammar.proofs.Places.{type_kind}
use Rattle.grammar.proofs.Sound.{both_left, both_right}
use Rattle.grammar.proofs.Complete.{both}
use Rattle.std.specs.Prelude.{Result, Ok, Err}
use Rattle.answer.specs.Refusal.{number_of, fault_at}
use Rattle.answer.specs.declared.refusal.Fault.{Fault}
use Rattle.answer.specs.declared.refusal.Refusal.TheVariants.{BytesEnd, ByteNotAllowed, TooDeep, TooManyNodes}
use Rattle.opening.specs.Code.{coded}
use Rattle.opening.specs.Open.{Opened, head_of, opening, wrapped_of, listed_of, instance_of, instance_at, head_at, open_at}
use Rattle.opening.specs.Lead.{Begun, leading, counted_of, call_at, generic_at, lead_form, lead_at}
use Rattle.opening.specs.Means.{record_of, sealed, and_then, series, signature_of, on_lead, on_open}
use Rattle.opening.specs.declared.Head.{Head}
use Rattle.opening.specs.declared.signatures.Lead.{Lead}
use Rattle.opening.specs.declared.types.Open.{Open}
use Rattle.opening.proofs.Codes.{coded-begins}

-- ---- how outcomes are put together

bind-sealed : (o : Out) (h : Head) (at : ℕ) → bind o (λ e m rs. done e m (record_of h at m ∷ rs)) ≡ sealed o h at
unfolding sealed
bind-sealed (fault refusal q) h at = refl
bind-sealed (done e m rs) h at = refl

bind-both : (o : Out) (k : ℕ → ℕ → Out) (h : Head) (at : ℕ)
    → bind o (λ e m rs. bind (k e m) (λ e' m' ts. done e' m' (record_of h at m' ∷ (rs ++ ts)))) ≡ sealed (and_then o k) h at
unfolding sealed and_then
bind-both (fault refusal q) k h at = refl
bind-both (done e m rs) k h at = inner (k e m)
  where
    inner : (q : Out) → bind q (λ e' m' ts. done e' m' (record_of h at m' ∷ (rs ++ ts))) ≡ sealed (bind q (λ e' m' ts. done e' m' (rs ++ ts))) h at
    inner (fault refusal q) = refl
    inner (done e' m' ts) = refl

-- one of a kind is that one
pub many-one : (f : ℕ → ℕ → Out) (at n : ℕ) → many f 1 at n ≡ f at n
unfolding many
many-one f at n = go (f at n)
  where
    go : (o : Out) → bind o (λ at₁ n₁ rs. bind (done at₁ n₁ []) (λ at₂ n₂ ts. done at₂ n₂ (rs ++ ts))) ≡ o
    go (fault refusal q) = refl
    go (done e m rs) = ap (done e m) (append-nil rs)

pub series-more : (f g : ℕ → ℕ → Out) (k at n : ℕ) → series f g (k + 1) at n ≡ and_then (f at n) (many g k)
unfolding series
series-more f g k at n = rw add-one

pub series-same : (f : ℕ → ℕ → Out) (k at n : ℕ) → series f f k at n ≡ many f k at n
unfolding series many and_then
series-same f zero at n = refl
series-same f (suc k) at n = go (f at n)
  where
    go : (o : Out) → and_then o (many f k) ≡ bind o (λ at₁ n₁ rs. bind (many f k at₁ n₁) (λ at₂ n₂ ts. done at₂ n₂ (rs ++ ts)))
    go (fault refusal q) = refl
    go (done e m rs) = refl

pub one-series : (f : ℕ → ℕ → Out) (at n : ℕ) → series f f 1 at n ≡ f at n
one-series f at n = series-same f 1 at n ∙ many-one f at n

-- ---- the code byte

-- what is read behind it, where the outcomes of a fault and of x are those of the judge
opened-coded : {A : Type 0} (on : Result A Fault → Out) → ((r : Fault) → fault (number_of r.refusal) r.place ≡ on (Err r)) → (d : ℕ) (s : List ℕ) (p : Place) (at n : ℕ) (k : ℕ → Form → Out) (x : Result A Fault)
    → (1 ≤ d → k (get_or s at 0) (form_of p (get_or s at 0)) ≡ on x) → opened d s p at n k ≡ on (coded d s p at n x)
opened-coded on f d s p at n k x e = go (ltb at (length s)) (allowed (form_of p (get_or s at 0))) (leb 1 d) (ltb n max_nodes) (λ q. e (leb-true 1 d q))
  where
    go : (t u v w : Bool) → (v ≡ true → k (get_or s at 0) (form_of p (get_or s at 0)) ≡ on x)
        → check t 2 at (λ _. check u 5 at (λ _. check v 6 at (λ _. check w 10 at (λ _. k (get_or s at 0) (form_of p (get_or s at 0))))))
        ≡ on (cond t (cond u (cond v (cond w x (Err (fault_at TooManyNodes at))) (Err (fault_at TooDeep at))) (Err (fault_at ByteNotAllowed at))) (Err (fault_at BytesEnd at)))
    go true true true true e = e refl
    go true true true false e = f (fault_at TooManyNodes at)
    go true true false w e = f (fault_at TooDeep at)
    go true false v w e = f (fault_at ByteNotAllowed at)
    go false u v w e = f (fault_at BytesEnd at)

-- a node at any depth left
node-opened : (d : ℕ) (s : List ℕ) (counts : Counts) (p : Place) (at n : ℕ)
    → (k : ℕ → Form → Out) × ((1 ≤ d → (b : ℕ) (f : Form) → k b f ≡ body (node (d - 1) s) (d - 1) s counts (kind_of p b) b at n f) × (node d s counts p at n ≡ opened d s p at n k))
unfolding node
node-opened zero s counts p at n = (λ b f. fault 6 at, (λ h b f. absurd (omega arith), refl))
node-opened (suc d) s counts p at n =
    let z : suc d - 1 ≡ d = omega arith in
    (λ b f. body (node d s) d s counts (kind_of p b) b at n f, (λ h b f. rw z refl, refl))

-- ---- types

module _ (read : Reader) (d : ℕ) (s : List ℕ) (counts : Counts) (at n : ℕ) where
  -- the outcome that goes with an opening
  abbrev on : Opened → Out
  on x = on_open x read d s counts at n

  number-open : (o : Checked) (from : ℕ) (k : ℕ → ℕ → Out) (h : ℕ → ℕ → Opened) → ((v next : ℕ) → k v next ≡ on (h v next)) → numbered o from k ≡ on (opening o from h)
  unfolding on_open
  number-open o from k h f = checked-through on o f (λ refusal. refl)

  check-open : (t : Bool) (f : Fault) (k : Unit {0} → Out) (x : Opened) → k tt ≡ on x → check t (number_of f.refusal) f.place k ≡ on (cond t x (Err f))
  unfolding on_open
  check-open true f k x e = e
  check-open false f k x e = refl

  wrap-open : (b : ℕ) (p : Place) (from : ℕ) → is_type_place p || is_fn_ptr_method p ≡ true → bind (read counts p from (n + 1)) (λ e m rs. done e m (entry b 0 0 1 at m ∷ rs)) ≡ on (Ok (wrapped_of b p from))
  unfolding on_open wrapped_of
  wrap-open b p from t = bind-sealed (read counts p from (n + 1)) (head_of b 0 0 1) at ∙ go (is_type_place p) t
    where
      go : (u : Bool) → u || is_fn_ptr_method p ≡ true → sealed (read counts p from (n + 1)) (head_of b 0 0 1) at ≡ on (Ok (cond u (Open.One (head_of b 0 0 1) p from) (Open.FnPtr (head_of b 0 0 1) from)))
      go true e = refl
      go false e = ap (λ (q : Place). sealed (read counts q from (n + 1)) (head_of b 0 0 1) at) (fn_ptr_method p e)

  list_open : (h : Head) (next : ℕ) → bind (many (read counts Place.Type) h.children next (n + 1)) (λ e m rs. done e m (record_of h at m ∷ rs)) ≡ on (Ok (listed_of h next))
  unfolding on_open listed_of
  list_open h next = bind-sealed (many (read counts Place.Type) h.children next (n + 1)) h at ∙ go (eqb h.children 1) (λ e. eqb-true h.children 1 e)
    where
      go : (t : Bool) → (t ≡ true → h.children ≡ 1) → sealed (many (read counts Place.Type) h.children next (n + 1)) h at ≡ on (Ok (cond t (Open.One h Place.Type next) (Open.List h next)))
      go true f =
          ap (λ (k : ℕ). sealed (many (read counts Place.Type) k next (n + 1)) h at) (f refl)
          ∙ ap (λ (o : Out). sealed o h at) (many-one (read counts Place.Type) next (n + 1))
      go false f = refl

  body_open : (b : ℕ) (f : Form) → type_form f ≡ true → body read d s counts b b at n f ≡ on (head_at f counts s b at)
  unfolding body head_at on_open sealed instance_at instance_of
  body_open b Refused t = refl
  body_open b Leaf t = refl
  body_open b Named t = number-open (token_at type_tags counts s (at + 1)) (at + 1) _ _ (λ v next. refl)
  body_open b Variable t = number-open (checked_at s (at + 1)) (at + 1) _ _ (λ v next. refl)
  body_open b (Wrap p) t = wrap-open b p (at + 1) t
  body_open b (Modified p) t = number-open (token_at mod_tags counts s (at + 1)) (at + 1) _ _ (λ v next. bind-sealed (read counts p next (n + 1)) (head_of b v 0 1) at)
  body_open b (Counted p) t = cc
  body_open b Array t = refl
  body_open b Instance t =
      check-open (ltb (at + 1) (length s)) (fault_at BytesEnd (at + 1)) _ _
      (check-open (within 0x11 0x12 (get_or s (at + 1) 0)) (fault_at ByteNotAllowed (at + 1)) _ _
      (number-open (token_at type_tags counts s (at + 2)) (at + 2) _ _
      (λ v at₁. number-open (count_at 1 max_number s at₁) at₁ _ _
      (λ c next. list_open (head_of b v (get_or s (at + 1) 0) c) next))))
  body_open b (Callable p) t = cc
  body_open b (Generic p) t = cc

-- ---- signatures

module _ (read : Reader) (d : ℕ) (s : List ℕ) (counts : Counts) (at n : ℕ) where
  abbrev on_l : Begun → Out
  on_l x = on_lead x read counts at n

  number-lead : (o : Checked) (from : ℕ) (k : ℕ → ℕ → Out) (h : ℕ → ℕ → Begun) → ((v next : ℕ) → k v next ≡ on_l (h v next)) → numbered o from k ≡ on_l (leading o from h)
  unfolding on_lead
  number-lead o from k h f = checked-through on_l o f (λ refusal. refl)

  call-lead : (p : Place) (kind a b from : ℕ) → callable read s counts p kind a b at n from ≡ on_l (call_at s p kind a b from)
  unfolding call_at on_lead signature_of
  call-lead p kind a b from =
      number-lead (checked_at s from) from _ _
      (λ c next. bind-both (read counts Place.RetType next (n + 1)) (many (read counts p) c) (head_of kind a b (c + 1)) at
      ∙ ap (λ (o : Out). sealed o (head_of kind a b (c + 1)) at) (sym (series-more (read counts Place.RetType) (read counts p) c next (n + 1))))

  body-lead : (kind b : ℕ) (f : Form) → signature_form f ≡ true → body read d s counts kind b at n f ≡ on_l (lead_form f s kind b at)
  unfolding body lead_form on_lead signature_of counted_of generic_at
  body-lead kind b Refused t = refl
  body-lead kind b Leaf t = cc
  body-lead kind b Named t = cc
  body-lead kind b Variable t = cc
  body-lead kind b (Wrap p) t =
      bind-sealed (read counts p (at + 1) (n + 1)) (head_of kind 0 0 1) at ∙ ap (λ (o : Out). sealed o (head_of kind 0 0 1) at) (sym (one-series (read counts p) (at + 1) (n + 1)))
  body-lead kind b (Modified p) t = cc
  body-lead kind b (Counted p) t =
      number-lead (count_at 1 max_number s (at + 1)) (at + 1) _ _
      (λ c next. bind-sealed (many (read counts p) c next (n + 1)) (head_of kind 0 0 c) at
      ∙ ap (λ (o : Out). sealed o (head_of kind 0 0 c) at) (sym (series-same (read counts p) c next (n + 1))))
  body-lead kind b Array t = cc
  body-lead kind b Instance t = cc
  body-lead kind b (Callable p) t = call-lead p kind 0 b (at + 1)
  body-lead kind b (Generic p) t = number-lead (count_at 1 max_number s (at + 1)) (at + 1) _ _ (λ g next. call-lead p kind g b next)

-- ---- a node is what its opening means

module _ (s : List ℕ) (counts : Counts) (p : Place) (at n d : ℕ) where
  pub node-open : is_type_place p ≡ true → node d s counts p at n ≡ on_open (open_at d counts s p at n) (node (d - 1) s) (d - 1) s counts at n
  unfolding open_at on_open
  node-open t =
      let k = node-opened d s counts p at n in
      k.1.1 ∙ opened-coded (λ x. on_open x (node (d - 1) s) (d - 1) s counts at n) (λ r. refl) d s p at n k.0 _
      (λ h. k.1.0 h _ _ ∙ rw (type_kind p (get_or s at 0) t) (body_open (node (d - 1) s) (d - 1) s counts at n (get_or s at 0) _ (type_form-fits p (get_or s at 0) t)))

  pub node-lead : is_type_place p ≡ false → node d s counts p at n ≡ on_lead (lead_at d s p at n) (node (d - 1) s) counts at n
  unfolding lead_at on_lead
  node-lead t =
      let k = node-opened d s counts p at n in
      k.1.1 ∙ opened-coded (λ x. on_lead x (node (d - 1) s) counts at n) (λ r. refl) d s p at n k.0 _
      (λ h. k.1.0 h _ _ ∙ body-lead (node (d - 1) s) (d - 1) s counts at n (kind_of p (get_or s at 0)) (get_or s at 0) _ (signature_form-fits p (get_or s at 0) t))

-- ---- what an opening says of its children's places

abbrev sorted : Opened → Bool
sorted (Err f) = true
sorted (Ok (Open.Leaf h next)) = true
sorted (Ok (Open.One h q next)) = is_type_place q
sorted (Ok (Open.List h next)) = true
sorted (Ok (Open.FnPtr h next)) = true
sorted (Ok (Open.Array kind)) = true

abbrev sorted_lead : Begun → Bool
sorted_lead (Err f) = true
sorted_lead (Ok l) = is_type_place l.first && is_type_place l.rest

cond_test : {A : Type 0} (test : A → Bool) (t : Bool) (x y : A) → test x ≡ true → test y ≡ true → test (cond t x y) ≡ true
cond_test test true x y f g = f
cond_test test false x y f g = g

head_sorted : (f : Form) (counts : Counts) (s : List ℕ) (b at : ℕ) → type_form f ≡ true → sorted (head_at f counts s b at) ≡ true
unfolding head_at wrapped_of listed_of instance_at instance_of form_of entries bare leads
head_sorted Refused counts s b at t = refl
head_sorted Leaf counts s b at t = refl
head_sorted Named counts s b at t = checked-test sorted (token_at type_tags counts s (at + 1)) _ _ (λ v next. refl) (λ r. refl)
head_sorted Variable counts s b at t = checked-test sorted (checked_at s (at + 1)) _ _ (λ v next. refl) (λ r. refl)
head_sorted (Wrap p) counts s b at t = go (is_type_place p) refl
  where
    go : (u : Bool) → is_type_place p ≡ u → sorted (Ok (cond u (Open.One (head_of b 0 0 1) p (at + 1)) (Open.FnPtr (head_of b 0 0 1) (at + 1)))) ≡ true
    go true e = e
    go false e = refl
head_sorted (Modified p) counts s b at t = checked-test sorted (token_at mod_tags counts s (at + 1)) _ _ (λ v next. t) (λ r. refl)
head_sorted (Counted p) counts s b at t = refl
head_sorted Array counts s b at t = refl
head_sorted Instance counts s b at t =
    cond_test sorted (ltb (at + 1) (length s)) _ _
    (cond_test sorted (within 0x11 0x12 (get_or s (at + 1) 0)) _ _
    (checked-test sorted (token_at type_tags counts s (at + 2)) _ _ (λ v at₁. checked-test sorted (count_at 1 max_number s at₁) _ _ (λ c next. cond_test (λ o. sorted (Ok o)) (eqb c 1) _ _ refl refl) (λ r. refl)) (λ r. refl))
    refl)
    refl
head_sorted (Callable p) counts s b at t = refl
head_sorted (Generic p) counts s b at t = refl

call-sorted : (s : List ℕ) (p : Place) (kind a b from : ℕ) → is_type_place p ≡ true → sorted_lead (call_at s p kind a b from) ≡ true
unfolding call_at form_of entries bare leads
call-sorted s p kind a b from t = checked-test sorted_lead (checked_at s from) _ _ (λ c next. t) (λ r. refl)

form-sorted : (f : Form) (s : List ℕ) (kind b at : ℕ) → signature_form f ≡ true → sorted_lead (lead_form f s kind b at) ≡ true
unfolding lead_form counted_of generic_at
form-sorted Refused s kind b at t = refl
form-sorted Leaf s kind b at t = refl
form-sorted Named s kind b at t = refl
form-sorted Variable s kind b at t = refl
form-sorted (Wrap p) s kind b at t = both _ _ t t
form-sorted (Modified p) s kind b at t = refl
form-sorted (Counted p) s kind b at t = checked-test sorted_lead (count_at 1 max_number s (at + 1)) _ _ (λ c next. both _ _ t t) (λ r. refl)
form-sorted Array s kind b at t = refl
form-sorted Instance s kind b at t = refl
form-sorted (Callable p) s kind b at t = call-sorted s p kind 0 b (at + 1) t
form-sorted (Generic p) s kind b at t = checked-test sorted_lead (count_at 1 max_number s (at + 1)) _ _ (λ g next. call-sorted s p kind g b next t) (λ r. refl)

coded-sorted : {A : Type 0} (test : Result A Fault → Bool) (d : ℕ) (s : List ℕ) (p : Place) (at n : ℕ) (x : Result A Fault) → ((f : Fault) → test (Err f) ≡ true) → test x ≡ true → test (coded d s p at n x) ≡ true
coded-sorted test d s p at n x f e =
    cond_test test (ltb at (length s)) _ _
    (cond_test test (allowed (form_of p (get_or s at 0))) _ _ (cond_test test (leb 1 d) _ _ (cond_test test (ltb n max_nodes) _ _ e (f (fault_at TooManyNodes at))) (f (fault_at TooDeep at))) (f (fault_at ByteNotAllowed at)))
    (f (fault_at BytesEnd at))

abbrev pub is_shut : Opened → Bool
is_shut (Err f) = true
is_shut (Ok (Open.Leaf h next)) = false
is_shut (Ok (Open.One h q next)) = false
is_shut (Ok (Open.List h next)) = false
is_shut (Ok (Open.FnPtr h next)) = false
is_shut (Ok (Open.Array kind)) = false

abbrev is_shut_lead : Begun → Bool
is_shut_lead (Err f) = true
is_shut_lead (Ok l) = false

module _ (s : List ℕ) (counts : Counts) (p : Place) (at n d : ℕ) where
  -- one that is not refused says that there is a byte, and room for its node
  pub open_begins : (o : Opened) → open_at d counts s p at n ≡ o → is_shut o ≡ false → (0 < d) × (at < length s) × (n < max_nodes)
  unfolding open_at
  open_begins o e f = coded-begins d s p at n _ is_shut (λ r. refl) (ap is_shut e ∙ f)

  pub open_one : is_type_place p ≡ true → {h : Head} {q : Place} {next : ℕ} → open_at d counts s p at n ≡ Ok (Open.One h q next) → is_type_place q ≡ true
  unfolding open_at
  open_one t e = sym (ap sorted e) ∙ coded-sorted sorted d s p at n _ (λ r. refl) (head_sorted (form_of p (get_or s at 0)) counts s (get_or s at 0) at (type_form-fits p (get_or s at 0) t))

module _ (s : List ℕ) (p : Place) (at n d : ℕ) where
  pub lead-begins : {l : Lead} → lead_at d s p at n ≡ Ok l → (0 < d) × (at < length s) × (n < max_nodes)
  unfolding lead_at
  lead-begins e = coded-begins d s p at n _ is_shut_lead (λ r. refl) (ap is_shut_lead e)

  pub lead-types : is_type_place p ≡ false → {l : Lead} → lead_at d s p at n ≡ Ok l → (is_type_place l.first ≡ true) × (is_type_place l.rest ≡ true)
  unfolding lead_at
  lead-types t {l} e =
      let h = sym (ap sorted_lead e)
      ∙ coded-sorted sorted_lead d s p at n _ (λ r. refl) (form-sorted (form_of p (get_or s at 0)) s (kind_of p (get_or s at 0)) (get_or s at 0) at (signature_form-fits p (get_or s at 0) t)) in
      (both_left _ _ h, both_right (is_type_place l.first) _ h)
