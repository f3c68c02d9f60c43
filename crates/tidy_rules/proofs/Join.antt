-- A walk over segments that joins dead ones which stand side by side: one step of it.
-- Assumes nothing.
use mathlib.Core.Path.{◌≡◌, refl, sym, ap, ◌∙◌, subst}
use mathlib.Core.List.{List, ◌∷◌, ◌++◌, append_assoc, append-nil}
use mathlib.Core.Logic.{⊎_elim}
use Prim.Native.Nat.{ℕ, suc, ◌+◌, ◌-◌}
use native.Mathlib.Omega.{arith}
use lib.ListN.{length, set, length-append}
use lib.Seq.{set_at}
use Rattle.formula.specs.Tree.{∅, ◌⧺◌}
use Rattle.formula.proofs.Forests.{⧺-none}
use Rattle.sheet.specs.Format.{Row, row}
use Rattle.tidy_rules.specs.Segments.{Segment, gone, Segments, none, ◌◂◌, ◌⊕◌, head, inner, segment_rows, size, grown, live, Here}
use Rattle.tidy_rules.specs.Walks.{JoinsAt}
use Rattle.tidy_rules.specs.Known.{Told, AllTold}
use Rattle.tidy_rules.specs.Rules.{note, notes}
use Rattle.tidy_rules.proofs.Segments.{rows-⊕, live-⊕, live_snoc, length-⊕, onward, part_done, stands, stands_row}
use Rattle.tidy_rules.proofs.Walks.{dead_holds}
use Rattle.tidy_rules.proofs.Told.{told_at, told_join, told_first, told_one, told_gone}
use Rattle.tidy_rules.proofs.Notes.{notes-⊕, notes_snoc, notes_dead, note_dead}

-- the rows of dead segments and of one more: the first, and those behind it
record Rows (bs : Segments) (x : Segment) : Type 0 where
  pub first : Row
  pub others : List Row
  pub are : segment_rows bs ++ (head x ∷ inner x) ≡ first ∷ others

rows_of : (bs : Segments) (x : Segment) → Rows bs x
unfolding segment_rows
rows_of none x = record { first = head x; others = inner x; are = refl }
rows_of (y ◂ ys) x =
    record {
      first = head y;
      others = (inner y ++ segment_rows ys) ++ (head x ∷ inner x);
      are = refl;
    }

-- a dead segment joins those before it
joined_here : {R : List Row} {from run at : ℕ} {before : List Row} {early dead : Segments} {x : Segment} (others : Segments) (after : List Row)
    → Here R from run at before early dead (segment_rows (x ◂ others) ++ after) → (r : Rows dead x)
    → Here (set R run (row 0 (at + size x - run))) from run (at + size x) before early (gone r.others ◂ none)
    (segment_rows others ++ after)
unfolding segment_rows head inner
joined_here {R} {from} {run} {at} {before} {early} {dead} {x} others after h r =
    record {
      whole =
          ap (λ (l : List Row). set l run (row 0 (at + size x - run))) split ∙
          set_at (before ++ segment_rows early) r.first (r.others ++ back) (row 0 (at + size x - run)) run starts ∙
          append_assoc before (segment_rows early) (row 0 (at + size x - run) ∷ (r.others ++ back)) ∙
          ap (λ m. before ++ (segment_rows early ++ (row 0 m ∷ (r.others ++ back)))) (omega (arith, count)) ∙
          ap (λ (l : List Row). before ++ (segment_rows early ++ (row 0 (suc (length r.others)) ∷ (l ++ back))))
          (sym (append-nil r.others));
      starts = h.starts;
      place = h.place;
      ends = omega (arith, count, ap length (append-nil r.others));
    }
  where
    back : List Row
    back = segment_rows others ++ after

    starts : length (before ++ segment_rows early) ≡ run
    starts = length-append before (segment_rows early) ∙ omega (arith, h.starts, h.place)

    -- how many rows are dead now
    count : at + size x ≡ run + suc (length r.others)
    count = omega (arith, ap length r.are, length-append (segment_rows dead) (head x ∷ inner x), h.ends)

    split : R ≡ (before ++ segment_rows early) ++ (r.first ∷ (r.others ++ back))
    split =
        h.whole ∙
        ap (λ (l : List Row). before ++ (segment_rows early ++ (segment_rows dead ++ (head x ∷ l))))
        (append_assoc (inner x) (segment_rows others) after) ∙
        ap (λ (l : List Row). before ++ (segment_rows early ++ l))
        (sym (append_assoc (segment_rows dead) (head x ∷ inner x) back) ∙ ap (λ (l : List Row). l ++ back) r.are) ∙
        sym (append_assoc before (segment_rows early) (r.first ∷ (r.others ++ back)))

-- past a segment: some segments, and dead ones behind them
pub record Advanced (R : List Row) (from at next to : ℕ) (before : List Row) (done : Segments) (x : Segment) (others : Segments) (after : List Row) (run : ℕ)
    : Type 0 where
  pub early : Segments
  pub dead : Segments
  pub here : Here R from next to before (early ⊕ dead) others after
  pub place : from + length (segment_rows early) ≡ run
  pub hidden : live dead ≡ ∅
  pub reads : live (early ⊕ dead) ≡ live done ⧺ live (x ◂ none)
  pub noted : notes from (early ⊕ dead) ≡ notes from done ++ note at x
  pub tells : (K : List ℕ) → AllTold K from done → Told K at x → AllTold K from (early ⊕ dead)

⊕-none : (bs : Segments) → bs ⊕ none ≡ bs
unfolding ◌⊕◌
⊕-none none = refl
⊕-none (x ◂ bs) = ap (λ cs. x ◂ cs) (⊕-none bs)

module _ {R : List Row} {from run at to : ℕ} {before after : List Row} (early dead : Segments) (x : Segment) (others : Segments)
    (h : Here R from at to before (early ⊕ dead) (x ◂ others) after) (place : from + length (segment_rows early) ≡ run) (hidden : live dead ≡ ∅) where
  pass_segment : Advanced R from at (at + size x) to before (early ⊕ dead) x others after (at + size x)
  unfolding live
  pass_segment =
      record {
        early = (early ⊕ dead) ⊕ (x ◂ none);
        dead = none;
        here = subst (λ cs. Here R from (at + size x) to before cs others after) (sym (⊕-none ((early ⊕ dead) ⊕ (x ◂ none)))) (onward h);
        place = (onward h).place;
        hidden = refl;
        reads = ap live (⊕-none ((early ⊕ dead) ⊕ (x ◂ none))) ∙ live_snoc (early ⊕ dead) x;
        noted = ap (notes from) (⊕-none ((early ⊕ dead) ⊕ (x ◂ none))) ∙ notes_snoc from (early ⊕ dead) x h.place;
        tells =
            λ K t u.
            subst (AllTold K from) (sym (⊕-none ((early ⊕ dead) ⊕ (x ◂ none))))
            (told_join K from (early ⊕ dead) (x ◂ none) t (told_at K (x ◂ none) (sym h.place) (told_one K at x u)));
      }

  behind_early : Here R from run at before early dead (segment_rows (x ◂ others) ++ after)
  behind_early =
      record {
        whole =
            h.whole ∙
            ap (λ (l : List Row). before ++ l)
            (ap (λ (l : List Row). l ++ (segment_rows (x ◂ others) ++ after)) (rows-⊕ early dead) ∙
            append_assoc (segment_rows early) (segment_rows dead) (segment_rows (x ◂ others) ++ after));
        starts = h.starts;
        place = place;
        ends = omega (arith, length-⊕ early dead, h.place, place);
      }

  -- a dead segment
  abbrev dead_segment : Segments
  dead_segment = gone (rows_of dead x).others ◂ none

  join_segment : (head x).kind ≡ 0
      → Advanced (set R run (row 0 (at + size x - run))) from at (at + size x) to before (early ⊕ dead) x others after run
  unfolding live grown
  join_segment k =
      record {
        early = early;
        dead = dead_segment;
        here =
            subst (λ m. Here (set R run (row 0 (at + size x - run))) from (at + size x) m before (early ⊕ dead_segment) others after)
            (onward h).ends (part_done others (joined_here others after behind_early (rows_of dead x)));
        place = place;
        hidden = refl;
        reads =
            live-⊕ early dead_segment ∙ ⧺-none (live early) ∙
            sym
            (ap (λ ts. live (early ⊕ dead) ⧺ ts) (dead_holds x k) ∙ ⧺-none (live (early ⊕ dead)) ∙ live-⊕ early dead ∙
            ap (λ ts. live early ⧺ ts) hidden ∙ ⧺-none (live early));
        noted =
            notes-⊕ from early dead_segment ∙ ap (λ ns. notes from early ++ ns) (notes_dead _ dead_segment refl) ∙
            sym
            (ap (λ ns. notes from (early ⊕ dead) ++ ns) (note_dead at x k) ∙ append-nil (notes from (early ⊕ dead)) ∙ notes-⊕ from early dead ∙
            ap (λ ns. notes from early ++ ns) (notes_dead _ dead hidden));
        tells =
            λ K t _.
            told_join K from early dead_segment (told_first K from early dead t)
            (told_one K _ (gone (rows_of dead x).others) (told_gone K _ (rows_of dead x).others));
      }

  pub advanced : {R' : List Row} {s run' : ℕ} → s ≡ size x → JoinsAt R R' run at (at + s) run'
      → Advanced R' from at (at + s) to before (early ⊕ dead) x others after run'
  advanced {R'} {s} {run'} e j =
      ⊎_elim
      (λ d.
      moved (d.1 ∙ ap (λ q. set R run (row 0 (at + q - run))) e) d.2
      (join_segment (sym (ap (λ (r : Row). r.kind) (stands_row (stands h))) ∙ d.0)))
      (λ d. moved d.1 (d.2 ∙ ap (λ q. at + q) e) pass_segment) j
    where
      moved : {R₁ : List Row} {run₁ : ℕ} → R' ≡ R₁ → run' ≡ run₁
          → Advanced R₁ from at (at + size x) to before (early ⊕ dead) x others after run₁
          → Advanced R' from at (at + s) to before (early ⊕ dead) x others after run'
      moved {R₁} {run₁} a b st =
          subst (λ m. Advanced R' from at (at + m) to before (early ⊕ dead) x others after run') (sym e)
          (subst (λ q. Advanced R' from at (at + size x) to before (early ⊕ dead) x others after q) (sym b)
          (subst (λ rs. Advanced rs from at (at + size x) to before (early ⊕ dead) x others after run₁) (sym a) st))
