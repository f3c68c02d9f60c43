-- The table of ends: hops over subtrees that stand side by side, and the table filled from its last entry to its first.
-- Assumes nothing.
use mathlib.Core.Path.{◌≡◌, refl, sym, ap, ap₂, ◌∙◌}
use mathlib.Core.Bool.{true, false}
use mathlib.Core.List.{List, [], ◌∷◌, ◌++◌}
use Prim.Native.Nat.{ℕ, zero, suc, ◌+◌, ◌-◌, ◌≤◌, ◌<◌}
use native.Mathlib.Nat.{add-zero, add_assoc}
use native.Mathlib.Omega.{arith}
use lib.ListN.{length, get_or, take, drop, set, length-set}
use lib.Seq.{drop-cons, drop-drop, get_or-drop, get_or-take, get_or-set_same, drop-set-lt, take-set-lt, length-take-le, drop-length}
use Rattle.formula.specs.Tree.{and, or, Tree, lit, node, rows, rows_all, count, ◌⧺◌}
use Rattle.formula.proofs.Forests.{count-⧺}
use Rattle.sheet.proofs.Forests.{front-⧺}
use Rattle.sheet.specs.Format.{Row, children}
use Rattle.sheet.specs.Sheet.{front, trees, root}
use Rattle.subtrees.specs.Subtrees.{top, kids}
use Rattle.subtrees.specs.Ends.{subtree_ends, forest_ends, hops, Hops}
use Rattle.subtrees.proofs.Forest.{rest, Sound, stepped_at, forest_at, some_row, siblings, end_within, rows-kids, ends-⧺}

-- hops

pub record Hopped (ends : List ℕ) (at left at' : ℕ) : Type 0 where
  pub within : at < length ends
  pub onward : Hops ends at' (left - 1)
  pub same : hops ends at left ≡ hops ends at' (left - 1)

pub hop_on : (ends : List ℕ) {at left : ℕ} → 0 < left → Hops ends at left → Hopped ends at left (get_or ends at 0)
unfolding hops
hop_on ends {at} {left = zero} h k = absurd (omega arith)
hop_on ends {at} {left = suc l} h k =
    let e : suc l - 1 ≡ l = omega arith in
    record { within = k.0; onward = rw e k.1; same = rw e }

pub hops-none : (ends : List ℕ) {at left : ℕ} → left ≤ 0 → hops ends at left ≡ at
unfolding hops
hops-none ends {at} {left = zero} h = refl
hops-none ends {at} {left = suc l} h = absurd (omega arith)

-- forest-ends

subtree_ends-top : (t : Tree) (i : ℕ) → subtree_ends i t ≡ (i + rows t) ∷ forest_ends (suc i) (kids t)
unfolding subtree_ends rows
subtree_ends-top (lit s v) i = ap (λ j. j ∷ []) (omega arith)
subtree_ends-top (node o ts) i = ap (λ j. j ∷ forest_ends (suc i) ts) (omega arith)

pub children-top : (t : Tree) → children (top t) ≡ count (kids t)
unfolding children count
children-top (lit true v) = refl
children-top (lit false v) = refl
children-top (node and ts) = refl
children-top (node or ts) = refl

-- the entries from i on are in place
abbrev pub Filled : List Row → List ℕ → ℕ → Type 0
Filled rs ends i = drop i (take (length rs) ends) ≡ forest_ends i (forest_at rs i)

-- the table while it is filled, of n rows those from i on
pub record Filling (rs : List Row) (n : ℕ) (before : List ℕ) (i : ℕ) (ends : List ℕ) : Type 0 where
  pub size : length rs ≡ n
  pub within : i ≤ n
  pub same_length : length ends ≡ length before
  pub kept : drop (length rs) ends ≡ drop (length rs) before
  pub filled : Filled rs ends i

-- k hops from the row `from` lead to the end of the subtree at row i
pub record Hopping (rs : List Row) (ends : List ℕ) (from k i : ℕ) : Type 0 where
  pub in_table : Hops ends from k
  pub at_end : hops ends from k ≡ i + rows (root (forest_at rs i))
  pub within : hops ends from k ≤ length rs

module _ (rs : List Row) (s : Sound rs) where
  -- the first entry is the end of the subtree at row i
  ends-at_row : (i : ℕ) → i < length rs
      → forest_ends i (forest_at rs i) ≡ (i + rows (root (forest_at rs i))) ∷ forest_ends (suc i) (forest_at rs (suc i))
  unfolding forest_ends
  ends-at_row i h =
      let t = root (forest_at rs i) in
      let us = rest (forest_at rs i) in
      let st = stepped_at rs s i h in
      ap (forest_ends i) st.whole ∙
      ap (λ l. l ++ forest_ends (i + rows t) us) (subtree_ends-top t i) ∙
      ap (λ l. (i + rows t) ∷ l)
      (ap (λ j. forest_ends (suc i) (kids t) ++ forest_ends j us) (end t) ∙ sym (ends-⧺ (kids t) us (suc i)) ∙
      ap (forest_ends (suc i)) (sym st.below))
    where
      end : (t : Tree) → i + rows t ≡ suc i + rows_all (kids t)
      end t = omega (arith, rows-kids t)

  filled_next : (ends : List ℕ) (i : ℕ) → i < length rs → Filled rs ends i → Filled rs ends (suc i)
  filled_next ends i h f =
      ap (λ j. drop j (take (length rs) ends)) (sum i) ∙ sym (drop-drop 1 i (take (length rs) ends)) ∙
      ap (drop 1) (f ∙ ends-at_row i h)
    where
      sum : (i : ℕ) → suc i ≡ i + 1
      sum i = omega arith

  filled_from : (ends : List ℕ) (i d : ℕ) {j : ℕ} → Filled rs ends i → j ≡ i + d → j ≤ length rs → Filled rs ends j
  filled_from ends i zero {j} f e h = let same : j ≡ i = omega arith in rw same f
  filled_from ends i (suc d) {j} f e h = filled_from ends (suc i) d (filled_next ends i (omega arith) f) (omega arith) h

  -- an entry is the end of its row's subtree
  pub end_at : (ends : List ℕ) (i : ℕ) {j : ℕ} → Filled rs ends i → length rs ≤ length ends → i ≤ j → j < length rs
      → get_or ends j 0 ≡ j + rows (root (forest_at rs j))
  end_at ends i {j} f room h k =
      sym (get_or-take (length rs) ends j 0 k) ∙ ap (λ n. get_or (take (length rs) ends) n 0) (sym (add-zero j)) ∙
      sym (get_or-drop j (take (length rs) ends) 0 0) ∙
      ap (λ l. get_or l 0 0) (filled_from ends i (j - i) f (omega arith) (omega arith) ∙ ends-at_row j k)

  -- k trees side by side are hopped over
  hops-siblings : (ends : List ℕ) (i : ℕ) → Filled rs ends i → length rs ≤ length ends → (k from : ℕ) → i ≤ from → from ≤ length rs
      → k ≤ count (forest_at rs from)
      → Hops ends from k × (hops ends from k ≡ from + rows_all (front k (forest_at rs from))) × (hops ends from k ≤ length rs)
  unfolding hops front rows_all count
  hops-siblings ends i f room zero from h l c = (tt, sym (add-zero from), l)
  hops-siblings ends i f room (suc k) from h l c =
      let t = root (forest_at rs from) in
      let inside : from < length rs = some_row rs from (omega arith) in
      let e = end_at ends i f room h inside in
      let sib = siblings rs s from inside in
      let more : k ≤ count (forest_at rs (from + rows t)) = omega (arith, ap count sib) in
      let on = hops-siblings ends i f room k (from + rows t) (omega arith) (end_within rs s from inside) more in (
        (omega arith, rw e on.0),
        rw e (on.1 ∙ add_assoc from (rows t) _ ∙ ap (λ ts. from + rows_all (front (suc k) ts)) (sym sib)),
        rw e on.2,
      )

  -- the children of the subtree at row i end where it does
  hops-children : (ends : List ℕ) {i k : ℕ} → Filled rs ends (suc i) → length rs ≤ length ends → i < length rs
      → k ≡ count (kids (root (forest_at rs i)))
      → Hopping rs ends (suc i) k i
  hops-children ends {i} {k} f room h few =
      let t = root (forest_at rs i) in
      let st = stepped_at rs s i h in
      let on =
      hops-siblings ends (suc i) f room k (suc i) (omega arith) h
      (omega (arith, ap count st.below, count-⧺ (kids t) (rest (forest_at rs i)))) in
      record {
        in_table = on.0;
        at_end =
            on.1 ∙
            ap (λ n. suc i + n)
            (ap (λ ts. rows_all (front k ts)) st.below ∙
            ap (λ n. rows_all (front n (kids t ⧺ rest (forest_at rs i)))) few ∙
            ap rows_all (front-⧺ (kids t) (rest (forest_at rs i)))) ∙
            omega (arith, rows-kids t);
        within = on.2;
      }

  pub fill_none : {n : ℕ} (ends : List ℕ) → length rs ≡ n → length rs ≤ length ends → Filling rs n ends n ends
  unfolding forest_ends trees
  fill_none ends e room =
      record {
        size = e;
        within = omega arith;
        same_length = refl;
        kept = refl;
        filled =
            rw (← e)
            (ap (λ m. drop m (take (length rs) ends)) (sym (length-take-le (length rs) ends room)) ∙ drop-length (take (length rs) ends) ∙
            sym (ap (λ l. forest_ends (length rs) (trees l)) (drop-length rs)));
      }

  -- before row j is filled, its children are hopped over
  pub fill-hops : {n : ℕ} {before : List ℕ} {i j from k : ℕ} (ends : List ℕ) → i ≡ suc j → from ≡ i → length rs ≤ length before
      → Filling rs n before i ends → k ≡ count (kids (root (forest_at rs j)))
      → Hopping rs ends from k j
  fill-hops ends next same room f e =
      rw (same, next)
      (hops-children ends (rw next at f.filled) (omega (arith, f.same_length)) (omega (arith, f.within, f.size)) e)

  pub fill-turn : {n : ℕ} {before : List ℕ} {i j : ℕ} (ends : List ℕ) (e : ℕ) → i ≡ suc j → length rs ≤ length before → Filling rs n before i ends
      → e ≡ j + rows (root (forest_at rs j)) → Filling rs n before j (set ends j e)
  fill-turn {n} {before} {i} {j} ends e next room f end =
      let part = take (length rs) ends in
      let long : length part ≡ length rs = length-take-le (length rs) ends (omega (arith, f.same_length)) in
      let inside : j < length rs = omega (arith, f.within, f.size) in
      record {
        size = f.size;
        within = omega (arith, f.within);
        same_length = length-set ends j e ∙ f.same_length;
        kept = drop-set-lt (length rs) ends j e inside ∙ f.kept;
        filled =
            ap (drop j) (take-set-lt (length rs) ends j e inside) ∙
            drop-cons (set part j e) j 0 (omega (arith, length-set part j e)) ∙
            ap₂ ◌∷◌ (get_or-set_same part j e 0 (omega arith) ∙ end) (drop-set-lt (suc j) part j e (omega arith)) ∙
            ap (λ l. (j + rows (root (forest_at rs j))) ∷ l) (rw next at f.filled) ∙
            sym (ends-at_row j inside);
      }
