-- The answers that the words below a header get, and the sheet that is written.
-- Assumes nothing.
use mathlib.Core.Logic.{inl, inr}
use mathlib.Core.Path.{◌≡◌, refl, sym, ap, ap₂, ◌∙◌}
use mathlib.Core.Bool.{Bool, true, false, not, ◌&&◌, ◌||◌, cond}
use mathlib.Core.List.{List, [], ◌∷◌, ◌++◌, map, map-append, append_assoc, flatten, flat_map}
use Prim.Native.Nat.{ℕ, zero, suc, ◌+◌, ◌*◌, ◌-◌, ◌≤◌, ◌<◌}
use native.Mathlib.Omega.{arith}
use lib.Dec.{eqb}
use lib.ListN.{length, get_or, replicate, length-append}
use borrow.Author.Tests.{eqb-true, ne_eqb, le-leb, leb-true}
use Rattle.formula.specs.Tree.{exists, Prefix, binds, distinct, rows, rows_all, count}
use Rattle.formula.proofs.Booleans.{and_parts}
use Rattle.sheet.specs.Format.{Bytes, Format, Row, row, digits, sheet_length, Every}
use Rattle.sheet.specs.Sheet.{binding_row, tree_rows, forest_rows, formula_rows, row_kinds, row_arguments, sheet}
use Rattle.sheet.specs.Check.{refused, accepted}
use Rattle.sheet.specs.Operations.{padded}
use Rattle.sheet.specs.Qdimacs.{all, is_nil, Token, is_end, absolute, text_header, tokens_below, pieces, ended_lists, open_list}
use Rattle.sheet.specs.Qdimacs.{in_order, well_listed, numbers_of, bound, clauses, clause_trees, matrix_of, named, is_free, free_up_to, said, qdimacs, qdimacs_call, above_count}
use Rattle.sheet.specs.Texts.{up_to, Uncut, lists, counts_fail}
use Rattle.sheet.proofs.RoundTrip.{length-sheet}
use Rattle.sheet.proofs.Parts.{sheet_length-rows}
use Rattle.sheet.proofs.Qdimacs.Accepted.{positive, in_order_positive, prefix_few}
use Rattle.sheet.proofs.Qdimacs.Lists.{pieces_uncut, all_both, all-leads}
use Rattle.sheet.proofs.Qdimacs.Answers.{qdimacs_refused, refused-16, refused-17, refused-6, refused-2, refused-13, accepts}
use Rattle.sheet.proofs.Qdimacs.Rows.{count-clauses}
use Rattle.sheet.proofs.Writing.{written}
use Rattle.rows.specs.Layouts.{width, total}
use Rattle.rows.specs.declared.Layout.{Layout}
use Rattle.words.specs.Numbers.{Capped, largest}
use Rattle.qdimacs.specs.Inner.Lists.{between, ordered, clause_tokens, whole_lists, ends}
use Rattle.qdimacs.specs.Inner.Cursor.{tokens_at, Cuts}
use Rattle.qdimacs.specs.Inner.Clauses.{Counts}
use Rattle.qdimacs.specs.Inner.Marks.{Listed, bindings_in, Marked, free_with, Names, frees}
use Rattle.qdimacs.specs.Inner.Rows.{clause_rows}
use Rattle.qdimacs.specs.Inner.Body.{laid, Below, CallAnswers}
use Rattle.qdimacs.specs.declared.clauses.Clauses.{Clauses}
use Rattle.qdimacs.specs.declared.prefix.Cut.{Cut}
use Rattle.qdimacs.proofs.Pieces.{well_listed_is}
use Rattle.qdimacs.proofs.Reading.{bound_by, bound_is, clauses_of, clauses_are, numbers_by, below_is, flatten_lists, numbers-named, length-lists, rows-lists}

-- a sheet's bytes and zeros behind them
abbrev laid_out : ℕ → ℕ → ℕ → List Row → ℕ → Bytes
laid_out w v n rs zeros = digits w v ++ digits w n ++ row_kinds rs ++ row_arguments w rs ++ replicate zeros 0

-- quantifier lines in order, and whole clauses below them
abbrev pub ordered_whole : Bytes → Bool
ordered_whole b = ordered between (tokens_at b 0) && whole_lists false (clause_tokens between (tokens_at b 0))

-- a refusal's answer and output
pub refuses : (F : Format) (t out : Bytes) (n : ℕ) → (qdimacs_call F t out).answer ≡ refused n 0 → CallAnswers F t out (refused n 0) out
refuses F t out n e = written (sym e, sym (qdimacs_refused F t out n 0 e))

module _ {F : Format} {t b : Bytes} {n : ℕ} (w : Below F t b n) (out : Bytes) where
  abbrev ts : List Token
  ts = tokens_at b 0

  listed_is : well_listed (tokens_below t) ≡ ordered_whole b
  listed_is = ap well_listed w.tokens_are ∙ well_listed_is ts

  pub not_listed : ordered_whole b ≡ false → CallAnswers F t out (refused 16 0) out
  not_listed e = refuses F t out 16 (refused-16 F t out w.header_good (listed_is ∙ e))

  module _ (well : ordered_whole b ≡ true) where
    is-listed : well_listed (tokens_below t) ≡ true
    is-listed = listed_is ∙ well

    abbrev cs : List Token
    cs = clause_tokens between ts

    whole : whole_lists false cs ≡ true
    whole = (and_parts (ordered between ts) (whole_lists false cs) well).1

    bound-lists : bound (lists (tokens_below t)) ≡ bindings_in b
    unfolding bound_by
    bound-lists = ap (λ us. bound (lists us)) w.tokens_are ∙ bound_is between ts well

    clause-lists : clauses (lists (tokens_below t)) ≡ lists cs
    unfolding clauses_of
    clause-lists = ap (λ us. clauses (lists us)) w.tokens_are ∙ clauses_are between ts well

    above-is : above_count (text_header t).variable_count (lists (tokens_below t)) ≡ not (all (up_to n) ts)
    unfolding above_count numbers_by
    above-is = ap₂ (λ m us. above_count m (lists us)) w.variables_are w.tokens_are ∙ ap not (below_is n between ts well)

    count_is : length (clauses (lists (tokens_below t))) ≡ ends cs
    count_is = ap length clause-lists ∙ length-lists cs

    counts-are : counts_fail (text_header t) (tokens_below t) ≡ (not (all (up_to n) ts) || not (eqb (ends cs) (text_header t).clause_count))
    counts-are = ap₂ (λ p m. p || not (eqb m (text_header t).clause_count)) above-is count_is

    pub too-high : all (up_to n) ts ≡ false → CallAnswers F t out (refused 17 0) out
    too-high e =
        refuses F t out 17
        (refused-17 F t out w.header_good is-listed (counts-are ∙ ap (λ p. not p || not (eqb (ends cs) (text_header t).clause_count)) e))

    pub other-count : (eqb (ends cs) (text_header t).clause_count) ≡ false → CallAnswers F t out (refused 17 0) out
    other-count e =
        refuses F t out 17
        (refused-17 F t out w.header_good is-listed (counts-are ∙ ap (λ p. not (all (up_to n) ts) || not p) e ∙ or-true (not (all (up_to n) ts))))
      where
        or-true : (p : Bool) → (p || true) ≡ true
        or-true true = refl
        or-true false = refl

    pub right-counts : all (up_to n) ts ≡ true → eqb (ends cs) (text_header t).clause_count ≡ true → counts_fail (text_header t) (tokens_below t) ≡ false
    right-counts e f = counts-are ∙ ap₂ (λ p q. not p || not q) e f

    module _ (counts : counts_fail (text_header t) (tokens_below t) ≡ false) where
      pub twice : distinct (bindings_in b) ≡ false → CallAnswers F t out (refused 6 0) out
      twice e = refuses F t out 6 (refused-6 F t out w.header_good is-listed counts (ap distinct bound-lists ∙ e))

      rows_are : rows (qdimacs t).matrix ≡ suc (length cs)
      unfolding qdimacs said matrix_of rows
      rows_are = ap (λ ls. suc (rows_all (clause_trees ls))) clause-lists ∙ ap suc (rows-lists false cs whole)

      module _ (once : distinct (bindings_in b) ≡ true) where
        is-once : distinct (bound (lists (tokens_below t))) ≡ true
        is-once = ap distinct bound-lists ∙ once

        pub too_many : F.most_nodes ≤ length cs → CallAnswers F t out (refused 2 0) out
        too_many l = refuses F t out 2 (refused-2 F t out w.header_good is-listed counts is-once (omega (arith, rows_are)))

        module _ (few : length cs < F.most_nodes) (m : List ℕ) (free_is : (x : ℕ) → 1 ≤ x → x ≤ n → eqb (get_or m x 0) 2 ≡ (named x cs && not (binds (bindings_in b) x))) where
          is-few : rows (qdimacs t).matrix ≤ F.most_nodes
          is-few = omega (arith, rows_are)

          frees-are : (k : ℕ) → k ≤ n → frees m k ≡ free_up_to k (lists (tokens_below t))
          unfolding frees free_up_to is_free
          frees-are zero l = refl
          frees-are (suc k) l =
              ap₂ (λ p c. p ++ cond c (record { quantifier = exists; variable = suc k } ∷ []) []) (frees-are k (omega arith))
              (free_is (suc k) (omega arith) l ∙
              ap₂ (λ c p. c && not p) (sym (ap (λ ls. named (suc k) (flatten ls)) clause-lists ∙ ap (named (suc k)) (flatten_lists false cs whole) ∙ numbers-named k cs))
              (sym (ap (λ p. binds p (suc k)) bound-lists)))

          prefix_is : (qdimacs t).prefix ≡ frees m n ++ bindings_in b
          unfolding qdimacs said
          prefix_is = ap₂ ◌++◌ (ap (λ k. free_up_to k (lists (tokens_below t))) w.variables_are ∙ sym (frees-are n (omega arith))) bound-lists

          prefix-long : length (qdimacs t).prefix ≡ length (frees m n) + length (bindings_in b)
          prefix-long = ap length prefix_is ∙ length-append (frees m n) (bindings_in b)

          abbrev sizes : ℕ
          sizes = sheet_length F (length (frees m n) + length (bindings_in b)) (suc (length cs))

          long : length (sheet F (qdimacs t)) ≡ sizes
          long = length-sheet F (qdimacs t) ∙ ap₂ (sheet_length F) prefix-long rows_are

          pub short : length out < sizes → CallAnswers F t out (refused 13 0) out
          short l = refuses F t out 13 (refused-13 F t out w.header_good is-listed counts is-once is-few (omega (arith, long)))

          abbrev rows-said : ℕ → List Token → List Row
          rows-said c us = map binding_row (frees m n) ++ (map binding_row (bindings_in b) ++ (row 5 c ∷ clause_rows us))

          rows_of : {c : ℕ} {us : List Token} → c ≡ ends cs → us ≡ cs → formula_rows (qdimacs t) ≡ rows-said c us
          unfolding formula_rows qdimacs said matrix_of tree_rows
          rows_of {c} {us} ec eu =
              ap₂ (λ p ls. map binding_row p ++ (row 5 (count (clause_trees ls)) ∷ forest_rows (clause_trees ls))) prefix_is clause-lists ∙
              ap₂ (λ p k. p ++ (row 5 k ∷ clause_rows cs)) (map-append binding_row (frees m n) (bindings_in b)) (count-clauses (lists cs) ∙ length-lists cs ∙ sym ec) ∙
              append_assoc (map binding_row (frees m n)) (map binding_row (bindings_in b)) (row 5 c ∷ clause_rows cs) ∙ ap (rows-said c) (sym eu)

          pub whole-sheet : (s : Layout) {c end : ℕ} {us : List Token} {new : Bytes} → sizes ≤ length out → width s ≡ F.width
              → s.variables ≡ length (frees m n) + length (bindings_in b) → s.nodes ≡ suc (length cs) → c ≡ ends cs → us ≡ cs
              → new ≡ laid s (rows-said c us) (length out) → end ≡ 2 * width s + total s + width s * total s → CallAnswers F t out (accepted end) new
          unfolding padded sheet
          whole-sheet s {c} {end} {us} {new} room ew ev en ec eu e f =
              written (ap accepted (f ∙ end_is), e ∙ bytes_are) ∙
              sym (accepts F t out w.header_good is-listed counts is-once is-few (omega (arith, long)))
            where
              both : s.variables + s.nodes ≡ length (frees m n) + length (bindings_in b) + suc (length cs)
              both = ap₂ ◌+◌ ev en

              regroup : (w n : ℕ) → 2 * w + n + w * n ≡ 2 * w + (n + w * n)
              regroup w n = omega arith

              end_is : 2 * width s + total s + width s * total s ≡ length (sheet F (qdimacs t))
              end_is =
                  ap₂ (λ w n. 2 * w + n + w * n) ew both ∙ regroup F.width (length (frees m n) + length (bindings_in b) + suc (length cs)) ∙
                  sym (long ∙ sheet_length-rows F (length (frees m n) + length (bindings_in b)) (suc (length cs)))

              nodes-left : total s - s.variables ≡ rows (qdimacs t).matrix
              nodes-left = omega (arith, en, rows_are)

              bytes_are : laid s (rows-said c us) (length out) ≡ padded (length out) (sheet F (qdimacs t))
              bytes_are =
                  ap₂ (laid_out (width s) s.variables (total s - s.variables)) (sym (rows_of ec eu)) (ap (λ e. length out - e) end_is) ∙
                  ap (λ w. laid_out w s.variables (total s - s.variables) (formula_rows (qdimacs t)) (length out - length (sheet F (qdimacs t)))) ew ∙
                  ap₂ (λ v n. laid_out F.width v n (formula_rows (qdimacs t)) (length out - length (sheet F (qdimacs t)))) (ev ∙ sym prefix-long) nodes-left

-- distinct numbers up to 1,024 are few

ended_uncut : (ps : List (List Token)) → Every (Uncut is_end) ps → Every (Uncut is_end) (ended_lists ps)
unfolding ended_lists
ended_uncut [] h = tt
ended_uncut (p ∷ []) h = tt
ended_uncut (p ∷ q ∷ ps) h = (h.0, ended_uncut (q ∷ ps) h.1)

pub few_bound : (b : Bytes) → Listed b → distinct (bindings_in b) ≡ true → length (bindings_in b) ≤ 1024
unfolding well_listed pieces bound_by numbers_by
few_bound b h d =
    let ts = tokens_at b 0 in
    let ls = lists ts in
    let order = (and_parts (in_order ls) (is_nil (open_list (pieces ts))) (well_listed_is ts ∙ h.well)).0 in
    let uncut = ended_uncut (pieces ts) (pieces_uncut is_end ts) in
    let low = below_is 1024 between ts h.well ∙ h.below in
    let within = all_both positive (up_to 1024) (flat_map numbers_of ls) (in_order_positive ls order uncut) low in
    let same = bound_is between ts h.well in
    omega (arith, prefix_few 1024 ls within (ap distinct same ∙ d), length-append (free_up_to 1024 ls) (bound ls), ap length same)

-- a number is free if it is named and not bound

pub free-marks : {b : Bytes} {from : ℕ} {p : Prefix} {m new : List ℕ} → Marked p m → Names b from m new
    → (x : ℕ) → 1 ≤ x → x ≤ 1024 → eqb (get_or new x 0) 2 ≡ (named x (tokens_at b from) && not (binds p x))
free-marks {b} {from} {p} {m} {new} h n x low high = n.free_is x low high ∙ go (eqb (get_or m x 0) 1) refl
  where
    shuffle : (s t : Bool) → (s && t) ≡ (t && s)
    shuffle true true = refl
    shuffle true false = refl
    shuffle false true = refl
    shuffle false false = refl

    never-two : (k : ℕ) (t : Bool) → eqb k 1 ≡ t → eqb k 0 ≡ not t → eqb k 2 ≡ false
    never-two k true e f = ap (λ j. eqb j 2) (eqb-true k 1 e)
    never-two k false e f = ap (λ j. eqb j 2) (eqb-true k 0 f)

    go : (t : Bool) → eqb (get_or m x 0) 1 ≡ t → free_with m (tokens_at b from) x ≡ (named x (tokens_at b from) && not (binds p x))
    go t e =
        ap (λ c. c || (eqb (get_or m x 0) 0 && named x (tokens_at b from))) (never-two (get_or m x 0) t e (h.others x ∙ ap not e)) ∙
        ap (λ c. c && named x (tokens_at b from)) (h.others x ∙ ap not (sym (h.bound_is x))) ∙ shuffle (not (binds p x)) (named x (tokens_at b from))

pub free-of-clauses : (b : Bytes) (from : ℕ) {n : ℕ} {cs : List Token} (p : Prefix) (m : List ℕ) → tokens_at b from ≡ cs → n ≤ 1024
    → ((x : ℕ) → 1 ≤ x → x ≤ 1024 → eqb (get_or m x 0) 2 ≡ (named x (tokens_at b from) && not (binds p x)))
    → (x : ℕ) → 1 ≤ x → x ≤ n → eqb (get_or m x 0) 2 ≡ (named x cs && not (binds p x))
free-of-clauses b from {n} {cs} p m e l h x low high = h x low (omega arith) ∙ ap (λ us. named x us && not (binds p x)) e

-- the counts that the header says, as code has them

pub same_count : (n m c : ℕ) → n < largest → Capped largest m c → eqb n c ≡ eqb n m
same_count n m c l (inl e) = ap (eqb n) e
same_count n m c l (inr e) = ne_eqb n c (λ f. absurd (omega (arith, e.1, f))) ∙ sym (ne_eqb n m (λ f. absurd (omega (arith, e.0, f))))

-- what read_body finds out

module _ {b : Bytes} {cut : Cut} (cuts : Cuts b cut) where
  pub disordered : cut.ordered ≡ false → ordered_whole b ≡ false
  disordered e = ap (λ p. p && whole_lists false (clause_tokens between (tokens_at b 0))) (sym cuts.ordered_is ∙ e)

  module _ (o : cut.ordered ≡ true) {c : Clauses} (counts : Counts b cut.at c) where
    pub listed-so : ordered_whole b ≡ (c.whole && not c.ongoing)
    listed-so =
        ap (λ p. p && whole_lists false (clause_tokens between (tokens_at b 0))) (sym cuts.ordered_is ∙ o) ∙
        ap (whole_lists false) (sym (cuts.clauses_from o)) ∙ sym counts.whole_is

    pub ends-are : c.count ≡ ends (clause_tokens between (tokens_at b 0))
    ends-are = counts.count_is ∙ ap ends (cuts.clauses_from o)

pub up_to_more : (n : ℕ) (ts : List Token) → n ≤ 1024 → all (up_to n) ts ≡ true → all (up_to 1024) ts ≡ true
up_to_more n ts l h = all-leads (up_to n) (up_to 1024) (λ t e. le-leb (absolute t) 1024 (omega (arith, leb-true (absolute t) n e))) ts h
