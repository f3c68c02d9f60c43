-- The reader's answers: in which order it refuses, and that a refusal alters nothing; what an accepted call leaves in the output.
-- Assumes nothing.
use mathlib.Core.Path.{◌≡◌, refl, ◌∙◌, ap, subst}
use mathlib.Core.Bool.{Bool, true, false, not, cond}
use mathlib.Core.List.{List, [], ◌∷◌, ◌++◌, flat_map}
use Prim.Native.Nat.{ℕ, ◌-◌, ◌≤◌, ◌<◌}
use native.Mathlib.Omega.{arith}
use lib.Dec.{ltb}
use lib.ListN.{length, replicate, length-append, length-replicate}
use lib.Seq.{take-append_seam, drop-append_seam}
use borrow.Author.Tests.{ltb-false, lt-ltb, le-ltb, not-false}
use Rattle.formula.specs.Tree.{distinct, rows}
use Rattle.formula.proofs.Booleans.{and_parts, or_parts}
use Rattle.sheet.specs.Format.{Bytes, Format, sheet_length, Every}
use Rattle.sheet.specs.Sheet.{sheet}
use Rattle.sheet.specs.Check.{Answer, refused, accepted, answer, passes}
use Rattle.sheet.specs.Operations.{padded, output_after, write}
use Rattle.sheet.specs.Limits.{Sound, Within}
use Rattle.sheet.specs.Qdimacs.{all, Token, is_end, Header, text_header, tokens_below, pieces, ended_lists, open_list, is_nil}
use Rattle.sheet.specs.Qdimacs.{in_order, well_listed, bound, numbers_of, matrix_of, said, qdimacs, above_count, said_tests}
use Rattle.sheet.specs.Qdimacs.{qdimacs_tests, qdimacs_call}
use Rattle.sheet.proofs.Tests.{passed-∷, accepted_passes}
use Rattle.sheet.proofs.Limits.{numbered_by}
use Rattle.sheet.proofs.RoundTrip.{formula-sheet, check-sheet, length-sheet}
use Rattle.sheet.proofs.Refusals.{written_refused}
use Rattle.sheet.specs.Operations.{holds}
use Rattle.sheet.proofs.Qdimacs.Lists.{all_both, pieces_uncut}
use Rattle.sheet.specs.Texts.{Uncut, up_to, lists, header_fails, counts_fail}
use Rattle.sheet.proofs.Qdimacs.Accepted.{positive, in_order_positive, prefix_range, prefix_distinct, prefix_few, said-closed}
use Rattle.sheet.specs.Results.{TextRead}

-- what the tests show

ended_every : (P : List Token → Type 0) (ps : List (List Token)) → Every P ps → Every P (ended_lists ps)
unfolding ended_lists
ended_every P [] h = tt
ended_every P (p ∷ []) h = tt
ended_every P (p ∷ q ∷ ps) h = (h.0, ended_every P (q ∷ ps) h.1)

pub lists_uncut : (ts : List Token) → Every (Uncut is_end) (lists ts)
unfolding pieces
lists_uncut ts = ended_every (Uncut is_end) (pieces ts) (pieces_uncut is_end ts)

module _ (F : Format) (h : Header) (ts : List Token) (len : ℕ) (passed : passes (said_tests F h ts len) ≡ true) where
  pub said-within : Within F (said h ts)
  unfolding said_tests said well_listed above_count
  said-within =
      let p15 = passed-∷ _ _ passed in
      let p16 = passed-∷ _ _ p15.1 in
      let p17 = passed-∷ _ _ p16.1 in
      let p6 = passed-∷ _ _ p17.1 in
      let p2 = passed-∷ _ _ p6.1 in
      let few = ltb-false F.most_variables h.variable_count (or_parts (not h.well_formed) _ p15.0).1 in
      let order = (and_parts (in_order (lists ts)) (is_nil (open_list (pieces ts))) (not-false _ p16.0)).0 in
      let low = not-false (all (up_to h.variable_count) (flat_map numbers_of (lists ts))) (or_parts _ _ p17.0).0 in
      let d = not-false (distinct (bound (lists ts))) p6.0 in
      let within = all_both positive (up_to h.variable_count) (flat_map numbers_of (lists ts)) (in_order_positive (lists ts) order (lists_uncut ts)) low in
      record {
        few_variables = let l = prefix_few h.variable_count (lists ts) within d in omega arith;
        few_nodes = ltb-false F.most_nodes (rows (matrix_of (lists ts))) p2.0;
        is_numbered =
            numbered_by F _
            (λ x k. let r = prefix_range h.variable_count (lists ts) within x k in
            (r.0, omega (arith, r.1)));
        is_distinct = prefix_distinct h.variable_count (lists ts) within d;
        is_closed = said-closed h.variable_count (lists ts) within;
      }

  pub said_fits : length (sheet F (said h ts)) ≤ len
  unfolding said_tests
  said_fits =
      let p2 = passed-∷ _ _ (passed-∷ _ _ (passed-∷ _ _ (passed-∷ _ _ passed).1).1).1 in
      let p13 = passed-∷ _ _ (passed-∷ _ _ p2.1).1 in
      omega (arith, length-sheet F (said h ts), ltb-false len _ p13.0)

module _ (F : Format) (t out : Bytes) where
  abbrev read_answer : Answer ℕ
  read_answer = (qdimacs_call F t out).answer

  pub qdimacs_right : Sound F → (n : ℕ) → read_answer ≡ accepted n → TextRead F t out n (qdimacs_call F t out).output
  unfolding qdimacs_call qdimacs_tests qdimacs write output_after padded
  qdimacs_right sound n h =
      let f = qdimacs t in
      let p = accepted_passes (qdimacs_tests F t (length out)) (length (sheet F f)) n h in
      let w = said-within F (text_header t) (tokens_below t) (length out) p.0 in
      let fits = said_fits F (text_header t) (tokens_below t) (length out) p.0 in
      let zeros : Bytes = replicate (length out - length (sheet F f)) 0 in
      rw h (subst (λ (m : ℕ). TextRead F t out m (sheet F f ++ zeros)) p.1
      (record {
        same_length = length-append (sheet F f) zeros ∙ simp length-replicate (omega arith);
        is_checked = rw (take-append_seam (sheet F f) zeros) (check-sheet F sound f w);
        same_formula = rw (take-append_seam (sheet F f) zeros) (formula-sheet F sound f w);
        zeros_behind = drop-append_seam (sheet F f) zeros;
      }))

  -- refusing alters no byte
  pub qdimacs_refused : (n i : ℕ) → read_answer ≡ refused n i → (qdimacs_call F t out).output ≡ out
  unfolding qdimacs_call
  qdimacs_refused n i h = written_refused _ _ out n i h

  -- 15, 16, 17, 6, 2, 13, in this order
  abbrev head : Header
  head = text_header t

  abbrev body : List Token
  body = tokens_below t

  abbrev by_tests : Bool → Bool → Bool → Bool → Bool → Bool → Answer ℕ
  by_tests header listed counts once large short =
      cond header (refused 15 0)
      (cond (not listed) (refused 16 0)
      (cond counts (refused 17 0)
      (cond (not once) (refused 6 0)
      (cond large (refused 2 0)
      (cond short (refused 13 0) (accepted (length (sheet F (qdimacs t)))))))))

  tested : read_answer ≡
      by_tests (header_fails F head) (well_listed body) (counts_fail head body) (distinct (bound (lists body))) (ltb F.most_nodes (rows (qdimacs t).matrix))
      (ltb (length out) (sheet_length F (length (qdimacs t).prefix) (rows (qdimacs t).matrix)))
  unfolding qdimacs_call qdimacs_tests said_tests qdimacs write answer
  tested = refl

  pub refused_15 : header_fails F head ≡ true → read_answer ≡ refused 15 0
  refused_15 e = tested ∙ rw e

  module _ (header : header_fails F head ≡ false) where
    pub refused-16 : well_listed body ≡ false → read_answer ≡ refused 16 0
    refused-16 e = tested ∙ rw (header, e)

    module _ (listed : well_listed body ≡ true) where
      pub refused-17 : counts_fail head body ≡ true → read_answer ≡ refused 17 0
      refused-17 e = tested ∙ rw (header, listed, e)

      module _ (counts : counts_fail head body ≡ false) where
        pub refused-6 : distinct (bound (lists body)) ≡ false → read_answer ≡ refused 6 0
        refused-6 e = tested ∙ rw (header, listed, counts, e)

        module _ (once : distinct (bound (lists body)) ≡ true) where
          pub refused-2 : F.most_nodes < rows (qdimacs t).matrix → read_answer ≡ refused 2 0
          refused-2 l = tested ∙ rw (header, listed, counts, once, lt-ltb F.most_nodes (rows (qdimacs t).matrix) l)

          module _ (few : rows (qdimacs t).matrix ≤ F.most_nodes) where
            pub refused-13 : length out < length (sheet F (qdimacs t)) → read_answer ≡ refused 13 0
            refused-13 l =
                tested ∙
                rw (header, listed, counts, once, le-ltb F.most_nodes (rows (qdimacs t).matrix) few, lt-ltb (length out) _ (rw (length-sheet F (qdimacs t)) at l))

            pub accepts : length (sheet F (qdimacs t)) ≤ length out → qdimacs_call F t out ≡ holds (sheet F (qdimacs t)) out
            unfolding qdimacs_call write output_after
            accepts l =
                ap (λ (a : Answer ℕ). record { answer = a; output = output_after a (sheet F (qdimacs t)) out })
                (tested ∙
                rw (header, listed, counts, once, le-ltb F.most_nodes (rows (qdimacs t).matrix) few, le-ltb (length out) _ (rw (length-sheet F (qdimacs t)) at l)))
