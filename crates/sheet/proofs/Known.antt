-- Every refusal has one of documents 01 and 02's numbers, 1 to 25, and its place is a row of the largest sheet, or the one behind the last.
-- Assumes nothing.
use mathlib.Core.Path.{◌≡◌, refl, sym, ◌∙◌, ap, ap₂, subst}
use mathlib.Core.Bool.{Bool, true, false, not, ◌&&◌, cond, true≢false}
use mathlib.Core.List.{List, [], ◌∷◌, ◌++◌, append-nil, append_assoc}
use mathlib.Core.Logic.{◌⊎◌, inl, inr}
use Prim.Native.Nat.{ℕ, zero, suc, ◌+◌, ◌≤◌}
use native.Mathlib.Omega.{arith}
use lib.Dec.{leb, ltb}
use lib.ListN.{length, drop, length-take, length-drop}
use borrow.Author.Tests.{leb-true, le-leb}
use Rattle.formula.specs.Tidy.{first_fault}
use Rattle.formula.specs.Expand.{innermost}
use Rattle.formula.proofs.Booleans.{and_parts}
use Rattle.formula.proofs.Faults.{fault_most}
use Rattle.sheet.specs.Format.{Bytes, Format, narrow, wide, header, Row, variables, nodes, kind_bytes, argument_bytes, all_rows, prefix_rows, node_rows, children}
use Rattle.sheet.specs.Sheet.{formula}
use Rattle.sheet.specs.Refusals.{wrong_block, too_many_to_try}
use Rattle.sheet.specs.Check.{Answer, refused, Test, test, answer, passes, size_tests, quantifier_tests, node_tests, tree_test, arguments, check_tests}
use Rattle.sheet.specs.Operations.{tidy_tests, tidy_and_bound_tests, settle_tests, quote_tests, expand_tests, execute_tests, reduce_tests}
use Rattle.sheet.proofs.Tests.{answer-++, refused_first}
use Rattle.sheet.proofs.Parts.{length-zip_rows}
use Rattle.sheet.proofs.CheckTests.{passed_sizes}
use Rattle.sheet.proofs.Accepted.{accepted_within, accepted_variables}
use Rattle.sheet.specs.Qdimacs.{said_tests, qdimacs_tests}
use Rattle.sheet.specs.Outer.{outer_tests}
use Rattle.sheet.specs.Force.{force_tests}
use Rattle.sheet.specs.Split.{split_tests}
use Rattle.sheet.specs.Clauses.{clauses_tests}
use Rattle.sheet.specs.Join.{join_tests}
use Rattle.sheet.specs.Guards.{guards_tests}
use Rattle.sheet.specs.Conversion.{to_wide_tests, to_narrow_tests}
use Rattle.sheet.specs.Resume.{named, resume_tests}
use Rattle.sheet.specs.Order.{sort_tests}
use Rattle.sheet.specs.Strategy.{response_tests}
use Rattle.sheet.specs.Check.{IsKnown, is_known, known, Known}
use Rattle.sheet.specs.Check.{last_place}

pub refused_known : {A : Type 0} (ts : List Test) (a : A) {n i : ℕ} → Known ts → answer ts a ≡ refused n i → IsKnown n
unfolding answer known
refused_known [] a k e = let z : ◌≡◌ {A = ℕ} 0 1 = cc in absurd (omega arith)
refused_known {A} (t ∷ ts) a {n} {i} k e =
    let parts = and_parts (is_known t.number) (known ts) k in
    let range = and_parts (leb 1 t.number) (leb t.number 25) parts.0 in
    by (leb-true 1 t.number range.0) (leb-true t.number 25 range.1) t.fails e (refused_known ts a parts.1)
  where
    by : 1 ≤ t.number → t.number ≤ 25 → (m : Bool) → cond m (refused t.number t.place) (answer ts a) ≡ refused n i
        → (answer ts a ≡ refused n i → IsKnown n) → IsKnown n
    by l m true h later = let same : t.number ≡ n = cc in record { least = omega arith; most = omega arith }
    by l m false h later = later h

known-++ : (ts us : List Test) → Known ts → Known us → Known (ts ++ us)
unfolding known
known-++ [] us h k = k
known-++ (t ∷ ts) us h k =
    let parts = and_parts (is_known t.number) (known ts) h in
    ap₂ ◌&&◌ parts.0 (known-++ ts us parts.1 k)

quantifier-known : (F : Format) (i : ℕ) (bound : List ℕ) (rs : List Row) → Known (quantifier_tests F i bound rs)
unfolding quantifier_tests known
quantifier-known F i bound [] = refl
quantifier-known F i bound (r ∷ rs) = quantifier-known F (suc i) (r.argument ∷ bound) rs

node-known : (i : ℕ) (bound : List ℕ) (rs : List Row) → Known (node_tests i bound rs)
unfolding node_tests known
node-known i bound [] = refl
node-known i bound (r ∷ rs) = node-known (suc i) bound rs

tree_known : (owed i : ℕ) (rs : List Row) → Known (tree_test owed i rs ∷ [])
unfolding tree_test known
tree_known zero i [] = refl
tree_known zero i (r ∷ rs) = refl
tree_known (suc owed) i [] = refl
tree_known (suc owed) i (r ∷ rs) = tree_known (owed + children r) (suc i) rs

size-known : (F : Format) (b : Bytes) → Known (size_tests F b)
unfolding size_tests known
size-known F b = refl

pub check-known : (F : Format) (b : Bytes) → Known (check_tests F b)
unfolding check_tests
check-known F b =
    let sizes = size_tests F b in
    let quantifiers = quantifier_tests F 0 [] (prefix_rows F b) in
    let nodes = node_tests (variables F b) (arguments (prefix_rows F b)) (node_rows F b) in
    known-++ (sizes ++ quantifiers ++ nodes) (tree_test 1 (variables F b) (node_rows F b) ∷ [])
    (known-++ (sizes ++ quantifiers) nodes (known-++ sizes quantifiers (size-known F b) (quantifier-known F 0 [] (prefix_rows F b)))
    (node-known (variables F b) (arguments (prefix_rows F b)) (node_rows F b)))
    (tree_known 1 (variables F b) (node_rows F b))

-- each operation's tests: Check's first, then its own
module _ (F : Format) (b : Bytes) where
  behind-check : (ts : List Test) → Known ts → Known (check_tests F b ++ ts)
  behind-check ts k = known-++ (check_tests F b) ts (check-known F b) k

  pub tidy-known : (len : ℕ) → Known (tidy_tests F b len)
  unfolding tidy_tests known
  tidy-known len = behind-check _ refl

  bound-known : (x : ℕ) → Known (check_tests F b ++ tidy_and_bound_tests F b x)
  unfolding tidy_and_bound_tests known
  bound-known x = behind-check _ refl

  pub settle_known : (x len : ℕ) → Known (settle_tests F b x len)
  unfolding settle_tests known
  settle_known x len = known-++ (check_tests F b ++ tidy_and_bound_tests F b x) _ (bound-known x) refl

  pub quote_known : (x : ℕ) → Known (quote_tests F b x)
  unfolding quote_tests known
  quote_known x = known-++ (check_tests F b ++ tidy_and_bound_tests F b x) _ (bound-known x) refl

  pub expand_known : (x len : ℕ) → Known (expand_tests F b x len)
  unfolding expand_tests known
  expand_known x len = known-++ (quote_tests F b x) _ (quote_known x) refl

  pub execute_known : (x ceiling len : ℕ) → Known (execute_tests F b x ceiling len)
  unfolding execute_tests known
  execute_known x ceiling len = known-++ (quote_tests F b x) _ (quote_known x) refl

  pub outer_known : (x len : ℕ) → Known (outer_tests F b x len)
  unfolding outer_tests known
  outer_known x len =
      known-++ (check_tests F b ++ tidy_and_bound_tests F b x) _ (bound-known x) refl

  pub response-known : (x len : ℕ) → Known (response_tests F b x len)
  unfolding response_tests known
  response-known x len = known-++ (check_tests F b ++ tidy_and_bound_tests F b x) _ (bound-known x) refl

  pub reduce_known : (len : ℕ) → Known (reduce_tests F b len)
  unfolding reduce_tests known
  reduce_known len = behind-check _ refl

  pub sort-known : (out : Bytes) → Known (sort_tests F b out)
  unfolding sort_tests known
  sort-known out = behind-check _ refl

  pub trial-known : Known (check_tests F b ++ (test (ltb 20 (variables F b)) too_many_to_try 0 ∷ []))
  unfolding known
  trial-known = behind-check _ refl

  pub force_known : (vs : Bytes) (len : ℕ) → Known (force_tests F b vs len)
  unfolding force_tests known
  force_known vs len = behind-check _ refl

  pub split-known : (vs : Bytes) (len : ℕ) → Known (split_tests F b vs len)
  unfolding split_tests known
  split-known vs len = behind-check _ refl

  pub clauses-known : (len : ℕ) → Known (clauses_tests F b len)
  unfolding clauses_tests known
  clauses-known len = behind-check _ refl

  pub guards-known : (len : ℕ) → Known (guards_tests F b len)
  unfolding guards_tests known
  guards-known len = behind-check _ refl

pub resume_known : (started settled expanded : ℕ) (b : Bytes) (w : Bool) (len : ℕ) → Known (resume_tests started settled expanded b w len)
unfolding resume_tests known
resume_known started settled expanded b w len = behind-check (named w) b _ refl

pub to_wide-known : (b : Bytes) (len : ℕ) → Known (to_wide_tests b len)
unfolding to_wide_tests known
to_wide-known b len = behind-check narrow b _ refl

pub to_narrow-known : (b : Bytes) (len : ℕ) → Known (to_narrow_tests b len)
unfolding to_narrow_tests known
to_narrow-known b len = behind-check wide b _ refl

pub qdimacs-known : (F : Format) (t : Bytes) (len : ℕ) → Known (qdimacs_tests F t len)
unfolding qdimacs_tests said_tests known
qdimacs-known F t len = refl

-- places

unfoldable pub places_to : ℕ → List Test → Bool
places_to m [] = true
places_to m (t ∷ ts) = leb t.place m && places_to m ts

abbrev pub PlacesTo : ℕ → List Test → Type 0
PlacesTo m ts = places_to m ts ≡ true

pub refused_place : {A : Type 0} (m : ℕ) (ts : List Test) (a : A) {n i : ℕ} → PlacesTo m ts → answer ts a ≡ refused n i → i ≤ m
unfolding answer places_to
refused_place m [] a k e = let z : ◌≡◌ {A = ℕ} 0 1 = cc in absurd (omega arith)
refused_place {A} m (t ∷ ts) a {n} {i} k e =
    let parts = and_parts (leb t.place m) (places_to m ts) k in
    by (leb-true t.place m parts.0) t.fails e (refused_place m ts a parts.1)
  where
    by : t.place ≤ m → (c : Bool) → cond c (refused t.number t.place) (answer ts a) ≡ refused n i → (answer ts a ≡ refused n i → i ≤ m) → i ≤ m
    by l true h later = let same : t.place ≡ i = cc in omega arith
    by l false h later = later h

places-++ : (m : ℕ) (ts us : List Test) → PlacesTo m ts → PlacesTo m us → PlacesTo m (ts ++ us)
unfolding places_to
places-++ m [] us h k = k
places-++ m (t ∷ ts) us h k =
    let parts = and_parts (leb t.place m) (places_to m ts) h in
    ap₂ ◌&&◌ parts.0 (places-++ m ts us parts.1 k)

quantifier-places : (F : Format) (i m : ℕ) (bound : List ℕ) (rs : List Row) → i + length rs ≤ m → PlacesTo m (quantifier_tests F i bound rs)
unfolding quantifier_tests places_to
quantifier-places F i m bound [] l = refl
quantifier-places F i m bound (r ∷ rs) l = rw (le-leb i m (omega arith)) (quantifier-places F (suc i) m (r.argument ∷ bound) rs (omega arith))

node-places : (i m : ℕ) (bound : List ℕ) (rs : List Row) → i + length rs ≤ m → PlacesTo m (node_tests i bound rs)
unfolding node_tests places_to
node-places i m bound [] l = refl
node-places i m bound (r ∷ rs) l = rw (le-leb i m (omega arith)) (node-places (suc i) m bound rs (omega arith))

tree_places : (owed i m : ℕ) (rs : List Row) → i + length rs ≤ m → PlacesTo m (tree_test owed i rs ∷ [])
unfolding tree_test places_to
tree_places zero i m [] l = rw (le-leb i m (omega arith))
tree_places zero i m (r ∷ rs) l = rw (le-leb i m (omega arith))
tree_places (suc owed) i m [] l = rw (le-leb i m (omega arith))
tree_places (suc owed) i m (r ∷ rs) l = tree_places (owed + children r) (suc i) m rs (omega arith)

size-places : (F : Format) (b : Bytes) (m : ℕ) → PlacesTo m (size_tests F b)
unfolding size_tests places_to
size-places F b m = rw (le-leb 0 m (omega arith))

-- Check names a row, or the row behind the last
check-places : (F : Format) (b : Bytes) → PlacesTo (variables F b + nodes F b) (check_tests F b)
unfolding check_tests prefix_rows node_rows all_rows kind_bytes
check-places F b =
    let m = variables F b + nodes F b in
    let rs = all_rows F b in
    let many = length-zip_rows F.width (kind_bytes F b) (argument_bytes F b) in
    let few = length-take m (drop (header F) b) in
    let first = length-take (variables F b) rs in
    let rest = length-drop (variables F b) rs in
    let sizes = size_tests F b in
    let quantifiers = quantifier_tests F 0 [] (prefix_rows F b) in
    let nodes = node_tests (variables F b) (arguments (prefix_rows F b)) (node_rows F b) in
    places-++ m (sizes ++ quantifiers ++ nodes) (tree_test 1 (variables F b) (node_rows F b) ∷ [])
    (places-++ m (sizes ++ quantifiers) nodes
    (places-++ m sizes quantifiers (size-places F b m) (quantifier-places F 0 m [] (prefix_rows F b) (omega arith)))
    (node-places (variables F b) m (arguments (prefix_rows F b)) (node_rows F b) (omega arith)))
    (tree_places 1 (variables F b) m (node_rows F b) (omega arith))

-- tests of which one fails refuse
failed : (ts : List Test) → passes ts ≡ false → (n : ℕ) × ((i : ℕ) × (◌≡◌ {A = Answer ℕ} (answer ts 0) (refused n i)))
unfolding passes answer
failed [] h = absurd (true≢false h)
failed (t ∷ ts) h = by t.fails h (failed ts)
  where
    by : (c : Bool) → (not c && passes ts) ≡ false → (passes ts ≡ false → (n : ℕ) × ((i : ℕ) × (◌≡◌ {A = Answer ℕ} (answer ts 0) (refused n i))))
        → (n : ℕ) × ((i : ℕ) × (◌≡◌ {A = Answer ℕ} (cond c (refused t.number t.place) (answer ts 0)) (refused n i)))
    by true e later = (t.number, (t.place, refl))
    by false e later = later e

same_place : {A : Type 0} {a : Answer A} {n m i j : ℕ} → a ≡ refused n i → a ≡ refused m j → i ≡ j
same_place e h = cc

same_number : {A : Type 0} {a : Answer A} {n m i j : ℕ} → a ≡ refused n i → a ≡ refused m j → n ≡ m
same_number e h = cc

-- what refuses the sizes refuses the sheet
size_first : (F : Format) (b : Bytes) {n i : ℕ} → ◌≡◌ {A = Answer ℕ} (answer (size_tests F b) 0) (refused n i)
    → ◌≡◌ {A = Answer ℕ} (answer (check_tests F b) 0) (refused n i)
unfolding check_tests
size_first F b e =
    let sizes = size_tests F b in
    let quantifiers = quantifier_tests F 0 [] (prefix_rows F b) in
    let nodes = node_tests (variables F b) (arguments (prefix_rows F b)) (node_rows F b) in
    let none : ℕ = 0 in
    sym
    (refused_first (sizes ++ quantifiers ++ nodes) (tree_test 1 (variables F b) (node_rows F b) ∷ []) none none
    (refused_first (sizes ++ quantifiers) nodes none none (refused_first sizes quantifiers none none (sym e))))

check_refused : (F : Format) (b : Bytes) {n i : ℕ} → ◌≡◌ {A = Answer ℕ} (answer (check_tests F b) 0) (refused n i) → i ≤ last_place F
check_refused F b {n} {i} e = by (passes (size_tests F b)) refl
  where
    by : (m : Bool) → passes (size_tests F b) ≡ m → i ≤ last_place F
    by true s =
        let fit = passed_sizes F b s in
        omega (arith, refused_place (variables F b + nodes F b) (check_tests F b) 0 (check-places F b) e, fit.few_variables, fit.few_nodes)
    by false s =
        let first = failed (size_tests F b) s in
        omega (arith, refused_place 0 (size_tests F b) 0 (size-places F b 0) first.1.1, same_place e (size_first F b first.1.1))

pub check-place : {A : Type 0} (F : Format) (b : Bytes) (us : List Test) (a : A) {n i : ℕ}
    → (passes (check_tests F b) ≡ true → PlacesTo (last_place F) us) → answer (check_tests F b ++ us) a ≡ refused n i → i ≤ last_place F
check-place F b us a {n} {i} own e = by (passes (check_tests F b)) refl
  where
    by : (m : Bool) → passes (check_tests F b) ≡ m → i ≤ last_place F
    by true p = refused_place (last_place F) us a (own p) (sym (answer-++ (check_tests F b) us a p) ∙ e)
    by false p =
        let first = failed (check_tests F b) p in
        omega (arith, check_refused F b first.1.1, same_place e (sym (refused_first {A = ℕ} (check_tests F b) us 0 a (sym first.1.1))))

pub check-alone : {A : Type 0} (F : Format) (b : Bytes) (a : A) {n i : ℕ} → answer (check_tests F b) a ≡ refused n i → i ≤ last_place F
unfolding places_to
check-alone F b a e = check-place F b [] a (λ p. refl) (ap (λ ts. answer ts a) (append-nil (check_tests F b)) ∙ e)

-- a refusal is Check's, or one of the tests behind it
pub check-or_own : {A : Type 0} (F : Format) (b : Bytes) (us : List Test) (a : A) {n i : ℕ} → answer (check_tests F b ++ us) a ≡ refused n i
    → (IsKnown n × (i ≤ last_place F)) ⊎ ((passes (check_tests F b) ≡ true) × (answer us a ≡ refused n i))
check-or_own F b us a {n} {i} e = by (passes (check_tests F b)) refl
  where
    by : (m : Bool) → passes (check_tests F b) ≡ m
        → (IsKnown n × (i ≤ last_place F)) ⊎ ((passes (check_tests F b) ≡ true) × (answer us a ≡ refused n i))
    by true p = inr (p, sym (answer-++ (check_tests F b) us a p) ∙ e)
    by false p =
        let first = failed (check_tests F b) p in
        let whole = sym (refused_first {A = ℕ} (check_tests F b) us 0 a (sym first.1.1)) in
        let known = refused_known (check_tests F b) 0 (check-known F b) first.1.1 in
        inl (subst IsKnown (same_number whole e) known, omega (arith, check_refused F b first.1.1, same_place e whole))

-- the other operations' places: 9 names a row, the others 0
module _ (F : Format) (b : Bytes) {A : Type 0} (a : A) where
  abbrev zero-place : leb 0 (last_place F) ≡ true
  zero-place = le-leb 0 (last_place F) (omega arith)

  nine-place : passes (check_tests F b) ≡ true → leb (variables F b + first_fault (formula F b).matrix) (last_place F) ≡ true
  nine-place p =
      let w = accepted_within F b p in
      le-leb (variables F b + first_fault (formula F b).matrix) (last_place F)
      (omega (arith, accepted_variables F b p, w.few_variables, w.few_nodes, fault_most (formula F b).matrix))

  bound-places : passes (check_tests F b) ≡ true → (x : ℕ) → PlacesTo (last_place F) (tidy_and_bound_tests F b x)
  unfolding tidy_and_bound_tests places_to
  bound-places p x = rw (nine-place p, zero-place)

  behind-bound : (x : ℕ) (us : List Test) {n i : ℕ} → PlacesTo (last_place F) us → answer (check_tests F b ++ tidy_and_bound_tests F b x ++ us) a ≡ refused n i
      → i ≤ last_place F
  behind-bound x us k e =
      check-place F b (tidy_and_bound_tests F b x ++ us) a (λ p. places-++ (last_place F) (tidy_and_bound_tests F b x) us (bound-places p x) k)
      (ap (λ ts. answer ts a) (sym (append_assoc (check_tests F b) (tidy_and_bound_tests F b x) us)) ∙ e)

  pub tidy-place : (len : ℕ) {n i : ℕ} → answer (tidy_tests F b len) a ≡ refused n i → i ≤ last_place F
  unfolding tidy_tests places_to
  tidy-place len e = check-place F b _ a (λ p. rw zero-place) e

  pub settle_place : (x len : ℕ) {n i : ℕ} → answer (settle_tests F b x len) a ≡ refused n i → i ≤ last_place F
  unfolding settle_tests places_to
  settle_place x len e = behind-bound x _ (rw zero-place) e

  pub quote_place : (x : ℕ) {n i : ℕ} → answer (quote_tests F b x) a ≡ refused n i → i ≤ last_place F
  unfolding quote_tests places_to
  quote_place x e = behind-bound x _ (rw zero-place) e

  behind_quote : (x : ℕ) (us : List Test) {n i : ℕ} → PlacesTo (last_place F) us → answer (quote_tests F b x ++ us) a ≡ refused n i → i ≤ last_place F
  unfolding quote_tests places_to
  behind_quote x us k e =
      behind-bound x _ (places-++ (last_place F) (test (not (innermost x (formula F b))) wrong_block 0 ∷ []) us (rw zero-place) k)
      (ap (λ ts. answer ts a) (sym (append_assoc (check_tests F b ++ tidy_and_bound_tests F b x) (test (not (innermost x (formula F b))) wrong_block 0 ∷ []) us)) ∙ e)

  pub expand_place : (x len : ℕ) {n i : ℕ} → answer (expand_tests F b x len) a ≡ refused n i → i ≤ last_place F
  unfolding expand_tests places_to
  expand_place x len e = behind_quote x _ (rw zero-place) e

  pub execute_place : (x ceiling len : ℕ) {n i : ℕ} → answer (execute_tests F b x ceiling len) a ≡ refused n i → i ≤ last_place F
  unfolding execute_tests places_to
  execute_place x ceiling len e = behind_quote x _ (rw zero-place) e

  pub outer_place : (x len : ℕ) {n i : ℕ} → answer (outer_tests F b x len) a ≡ refused n i → i ≤ last_place F
  unfolding outer_tests places_to
  outer_place x len e = behind-bound x _ (rw zero-place) e

  pub response-place : (x len : ℕ) {n i : ℕ} → answer (response_tests F b x len) a ≡ refused n i → i ≤ last_place F
  unfolding response_tests places_to
  response-place x len e = behind-bound x _ (rw zero-place) e

  pub reduce_place : (len : ℕ) {n i : ℕ} → answer (reduce_tests F b len) a ≡ refused n i → i ≤ last_place F
  unfolding reduce_tests places_to
  reduce_place len e = check-place F b _ a (λ p. rw (nine-place p, zero-place)) e

  pub sort-place : (out : Bytes) {n i : ℕ} → answer (sort_tests F b out) a ≡ refused n i → i ≤ last_place F
  unfolding sort_tests places_to
  sort-place out e = check-place F b _ a (λ p. rw zero-place) e

  pub force_place : (vs : Bytes) (len : ℕ) {n i : ℕ} → answer (force_tests F b vs len) a ≡ refused n i → i ≤ last_place F
  unfolding force_tests places_to
  force_place vs len e = check-place F b _ a (λ p. rw zero-place) e

  pub split-place : (vs : Bytes) (len : ℕ) {n i : ℕ} → answer (split_tests F b vs len) a ≡ refused n i → i ≤ last_place F
  unfolding split_tests places_to
  split-place vs len e = check-place F b _ a (λ p. rw zero-place) e

  pub clauses-place : (len : ℕ) {n i : ℕ} → answer (clauses_tests F b len) a ≡ refused n i → i ≤ last_place F
  unfolding clauses_tests places_to
  clauses-place len e = check-place F b _ a (λ p. rw zero-place) e

  pub join-place : (k : ℕ) (xs : Bytes) {n i : ℕ} → answer (join_tests F b k xs) a ≡ refused n i → i ≤ last_place F
  unfolding join_tests places_to
  join-place k xs e = check-place F b _ a (λ p. rw zero-place) e

  pub guards-place : (len : ℕ) {n i : ℕ} → answer (guards_tests F b len) a ≡ refused n i → i ≤ last_place F
  unfolding guards_tests places_to
  guards-place len e = check-place F b _ a (λ p. rw zero-place) e
