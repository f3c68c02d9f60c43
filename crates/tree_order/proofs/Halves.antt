-- Arranging by halves: each half is arranged where it stands, and the two are merged.
-- Assumes nothing.
use mathlib.Core.Path.{◌≡◌, refl, sym, ap, ap₂, ◌∙◌, subst}
use mathlib.Core.List.{List, ◌++◌, append-nil}
use Prim.Native.Nat.{ℕ, zero, suc, ◌+◌, ◌-◌, ◌≤◌}
use native.Mathlib.Omega.{arith}
use lib.ListN.{length, take, drop, length-append, length-drop, drop_of_length-le}
use lib.Seq.{take_at, drop_at}
use Rattle.formula.specs.Tree.{Tree, Forest, ∅, ◌▸◌, rows, rows_all, count, ◌⧺◌}
use Rattle.formula.specs.Order.{insert}
use Rattle.formula.proofs.Forests.{rows-⧺}
use Rattle.formula.proofs.Tidy.Children.{⧺-assoc, count-⧺}
use Rattle.sheet.specs.Format.{Bytes}
use Rattle.sheet.specs.Sheet.{front, behind, root}
use Rattle.sheet.proofs.Forests.{count-front, count-behind, front-behind}
use Rattle.rows.specs.declared.Layout.{Layout}
use Rattle.subtrees.specs.Ends.{Indexed}
use Rattle.subtrees.proofs.Forest.{rest}
use Rattle.tree_order.specs.declared.merging.Runs.{Runs}
use Rattle.tree_order.specs.Tables.{forest_entries, picked, standing, Stands, first_size}
use Rattle.tree_order.specs.Arranging.{into, arrange, Ascending}
use Rattle.tree_order.specs.Merging.{Merger, all_merged, arranged}
use Rattle.tree_order.proofs.Entries.{forest_entries-⧺, length-forest_entries, picked-++, picked-take, picked-drop, length-picked, standing_is, stands}
use Rattle.tree_order.proofs.Arranging.{arrange-⧺, arrange_ascends, rows-arrange, count-arrange}
use Rattle.tree_order.proofs.MergeTurn.{front-split, size-rows, suffix}

-- lists of trees

pub front_at : (k : ℕ) (ts us : Forest) → count ts ≡ k → front k (ts ⧺ us) ≡ ts
unfolding front count ◌⧺◌
front_at zero ∅ us e = refl
front_at (suc k) ∅ us e = absurd (omega arith)
front_at zero (t ▸ ts) us e = absurd (omega arith)
front_at (suc k) (t ▸ ts) us e = ap (λ l. t ▸ l) (front_at k ts us (omega arith))

pub behind_at : (k : ℕ) (ts us : Forest) → count ts ≡ k → behind k (ts ⧺ us) ≡ us
unfolding behind count ◌⧺◌
behind_at zero ∅ us e = refl
behind_at (suc k) ∅ us e = absurd (omega arith)
behind_at zero (t ▸ ts) us e = absurd (omega arith)
behind_at (suc k) (t ▸ ts) us e = behind_at k ts us (omega arith)

-- no tree, and one

arrange-none : arrange ∅ ≡ ∅
unfolding into
arrange-none = refl

arrange_one : (t : Tree) → arrange (t ▸ ∅) ≡ t ▸ ∅
unfolding into insert
arrange_one t = refl

front-none : (ts : Forest) → front 0 ts ≡ ∅
unfolding front
front-none ts = refl

rows-of_one : (t : Tree) → rows_all (t ▸ ∅) ≡ rows t
unfolding rows_all
rows-of_one t = omega arith

rows-of-none : rows_all ∅ ≡ 0
unfolding rows_all
rows-of-none = refl

module _ {s : Layout} {b : Bytes} {ends at : List ℕ} {k : ℕ} (h : Stands s b ends at k) where
  unchanged : (ts : Forest) → front k (standing s b at) ≡ ts → arrange ts ≡ ts → picked s b ends at ≡ forest_entries (arranged k (standing s b at))
  unchanged ts e f =
      h.whole ∙
      ap forest_entries
      (sym (front-behind k (standing s b at)) ∙
      ap (λ us. us ⧺ behind k (standing s b at)) (e ∙ sym f ∙ ap arrange (sym e)))

  pub none-arranged : k ≡ 0
      → (picked s b ends at ≡ forest_entries (arranged k (standing s b at))) × (0 ≡ rows_all (front k (standing s b at)))
  none-arranged e =
      let none = ap (λ n. front n (standing s b at)) e ∙ front-none (standing s b at) in
      (unchanged ∅ none arrange-none, sym (ap rows_all none ∙ rows-of-none))

  pub one_arranged : Indexed s b ends → k ≡ 1 → {n : ℕ} → n ≡ first_size ends at
      → (picked s b ends at ≡ forest_entries (arranged k (standing s b at))) × (n ≡ rows_all (front k (standing s b at)))
  one_arranged ix e {n} size =
      let t = root (standing s b at) in
      let one = front-split k (standing s b at) (omega arith) h.few ∙ ap (λ us. t ▸ us) (ap (λ m. front m (rest (standing s b at))) (less k e) ∙ front-none (rest (standing s b at))) in
      (unchanged (t ▸ ∅) one (arrange_one t), size-rows ix at (omega arith) h size ∙ sym (ap rows_all one ∙ rows-of_one t))
    where
      less : (m : ℕ) → m ≡ 1 → m - 1 ≡ 0
      less m q = omega arith

-- halves: the first `half` of k trees, and the others
module _ {s : Layout} {b : Bytes} {ends : List ℕ} (at : List ℕ) {k half : ℕ} (h : Stands s b ends at k) (less : half ≤ k) where
  abbrev all-trees : Forest
  all-trees = standing s b at

  abbrev firsts : Forest
  firsts = front half all-trees

  abbrev seconds : Forest
  seconds = front (k - half) (behind half all-trees)

  abbrev others : Forest
  others = behind (k - half) (behind half all-trees)

  pub half_stands : Stands s b ends at half
  half_stands = record { whole = h.whole; few = omega (arith, h.few) }

  count-firsts : count firsts ≡ half
  count-firsts = count-front half all-trees (omega (arith, h.few))

  count_seconds : count seconds ≡ k - half
  count_seconds = count-front (k - half) (behind half all-trees) (omega (arith, count-behind half all-trees, h.few))

  all_parts : all-trees ≡ (firsts ⧺ seconds) ⧺ others
  all_parts =
      sym (front-behind half all-trees) ∙ ap (λ us. firsts ⧺ us) (sym (front-behind (k - half) (behind half all-trees))) ∙
      sym (⧺-assoc firsts seconds others)

  count-both : count (firsts ⧺ seconds) ≡ k
  count-both = count-⧺ firsts seconds ∙ ap₂ ◌+◌ count-firsts count_seconds ∙ omega arith

  front-both : front k all-trees ≡ firsts ⧺ seconds
  front-both = ap (front k) all_parts ∙ front_at k (firsts ⧺ seconds) others count-both

  behind-both : behind k all-trees ≡ others
  behind-both = ap (behind k) all_parts ∙ behind_at k (firsts ⧺ seconds) others count-both

  -- the first half arranged
  module _ (at₁ : List ℕ) {middle : ℕ} (first : picked s b ends at₁ ≡ forest_entries (arranged half all-trees)) (ends_at : middle ≡ rows_all firsts) where
    length-first : length (forest_entries (arrange firsts)) ≡ middle
    length-first = length-forest_entries (arrange firsts) ∙ rows-arrange firsts ∙ sym ends_at

    first-split : picked s b ends at₁ ≡ forest_entries (arrange firsts) ++ forest_entries (behind half all-trees)
    first-split = first ∙ forest_entries-⧺ (arrange firsts) (behind half all-trees)

    pub middle-within : middle ≤ length at₁
    middle-within =
        omega (arith, sym (length-picked s b ends at₁) ∙ ap length first-split ∙ length-append (forest_entries (arrange firsts)) (forest_entries (behind half all-trees)), length-first)

    first-front : picked s b ends (take middle at₁) ≡ forest_entries (arrange firsts)
    first-front =
        picked-take s b ends middle at₁ ∙ ap (take middle) first-split ∙
        take_at (forest_entries (arrange firsts)) (forest_entries (behind half all-trees)) middle length-first

    first_rest : picked s b ends (drop middle at₁) ≡ forest_entries (behind half all-trees)
    first_rest =
        picked-drop s b ends middle at₁ ∙ ap (drop middle) first-split ∙
        drop_at (forest_entries (arrange firsts)) (forest_entries (behind half all-trees)) middle length-first

    -- the part that is lent for the second half
    abbrev pub lent : List ℕ
    lent = take (length at₁ - middle) (drop middle at₁)

    lent-picked : picked s b ends lent ≡ forest_entries (behind half all-trees)
    lent-picked = ap (picked s b ends) (suffix at₁ middle) ∙ first_rest

    lent-standing : standing s b lent ≡ behind half all-trees
    lent-standing = standing_is s b ends lent (behind half all-trees) lent-picked

    pub lent-stands : Stands s b ends lent (k - half)
    lent-stands = stands s b ends lent (behind half all-trees) (k - half) lent-picked (omega (arith, count-behind half all-trees, h.few))

    -- the second half arranged
    module _ (part : List ℕ) {end : ℕ} (second : picked s b ends part ≡ forest_entries (arranged (k - half) (standing s b lent)))
        (Ends-there : end ≡ rows_all (front (k - half) (standing s b lent))) where
      abbrev pub at₂ : List ℕ
      at₂ = take middle at₁ ++ (part ++ drop (length at₁ - middle) (drop middle at₁))

      is : at₂ ≡ take middle at₁ ++ part
      is =
          ap (λ l. take middle at₁ ++ (part ++ l)) (drop_of_length-le (drop middle at₁) {i = length at₁ - middle} (omega (arith, length-drop middle at₁))) ∙
          ap (λ l. take middle at₁ ++ l) (append-nil part)

      abbrev pub runs : Runs
      runs = record { left = 0; lefts = half; right = middle; rights = k - half; to = 0 }

      second-part : picked s b ends part ≡ forest_entries (arrange seconds ⧺ others)
      second-part = second ∙ ap (λ ts. forest_entries (arranged (k - half) ts)) lent-standing

      both-picked : picked s b ends at₂ ≡ forest_entries (arrange firsts) ++ forest_entries (arrange seconds ⧺ others)
      both-picked = ap (picked s b ends) is ∙ picked-++ s b ends (take middle at₁) part ∙ ap₂ ◌++◌ first-front second-part

      all-picked : picked s b ends at₂ ≡ forest_entries (arrange firsts ⧺ (arrange seconds ⧺ others))
      all-picked = both-picked ∙ sym (forest_entries-⧺ (arrange firsts) (arrange seconds ⧺ others))

      right-picked : picked s b ends (drop middle at₂) ≡ forest_entries (arrange seconds ⧺ others)
      right-picked =
          picked-drop s b ends middle at₂ ∙ ap (drop middle) both-picked ∙
          drop_at (forest_entries (arrange firsts)) (forest_entries (arrange seconds ⧺ others)) middle length-first

      count_left : count (arrange firsts) ≡ half
      count_left = count-arrange firsts ∙ count-firsts

      count-right : count (arrange seconds) ≡ k - half
      count-right = count-arrange seconds ∙ count_seconds

      left_is : front half (standing s b at₂) ≡ arrange firsts
      left_is =
          ap (front half) (standing_is s b ends at₂ _ all-picked) ∙ front_at half (arrange firsts) (arrange seconds ⧺ others) count_left

      right_is : front (k - half) (standing s b (drop middle at₂)) ≡ arrange seconds
      right_is =
          ap (front (k - half)) (standing_is s b ends (drop middle at₂) _ right-picked) ∙
          front_at (k - half) (arrange seconds) others count-right

      rest-is : behind (k - half) (standing s b (drop middle at₂)) ≡ others
      rest-is =
          ap (behind (k - half)) (standing_is s b ends (drop middle at₂) _ right-picked) ∙
          behind_at (k - half) (arrange seconds) others count-right

      rows_right : rows_all (arrange seconds) ≡ end
      rows_right = rows-arrange seconds ∙ sym (Ends-there ∙ ap (λ ts. rows_all (front (k - half) ts)) lent-standing)

      length-all : length at₂ ≡ middle + (end + rows_all others)
      length-all =
          sym (length-picked s b ends at₂) ∙ ap length both-picked ∙
          length-append (forest_entries (arrange firsts)) (forest_entries (arrange seconds ⧺ others)) ∙
          ap₂ ◌+◌ length-first
          (length-forest_entries (arrange seconds ⧺ others) ∙ rows-⧺ (arrange seconds) others ∙ ap (λ n. n + rows_all others) rows_right)

      pub halves-within : middle + end ≤ length at₂
      halves-within = omega (arith, length-all)

      pub halves-ready : Merger s b ends at₂ runs
      halves-ready =
          record {
            left_stands = stands s b ends at₂ _ half all-picked (omega (arith, count-⧺ (arrange firsts) (arrange seconds ⧺ others), count_left));
            right_stands = stands s b ends (drop middle at₂) _ (k - half) right-picked (omega (arith, count-⧺ (arrange seconds) others, count-right));
            left_ascends = subst Ascending (sym left_is) (arrange_ascends firsts);
            right_ascends = subst Ascending (sym right_is) (arrange_ascends seconds);
            meets = omega (arith, ap rows_all left_is, rows-arrange firsts, ends_at);
            within = omega (arith, ap rows_all right_is, rows_right, length-all);
          }

      pub halves-merged : (at₃ : List ℕ) → picked s b ends at₃ ≡ forest_entries (all_merged s b at₂ runs)
          → (picked s b ends at₃ ≡ forest_entries (arranged k all-trees)) × (middle + end ≡ rows_all (front k all-trees))
      halves-merged at₃ e = (
        e ∙
            ap forest_entries
            (ap₂ ◌⧺◌ (ap₂ into left_is right_is ∙ arrange-⧺ firsts seconds ∙ ap arrange (sym front-both)) (rest-is ∙ sym behind-both)),
        ap₂ ◌+◌ ends_at (sym rows_right ∙ rows-arrange seconds) ∙ sym (ap rows_all front-both ∙ rows-⧺ firsts seconds),
      )
