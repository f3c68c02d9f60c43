-- Runs written one after the other.
-- Assumes nothing.
use mathlib.Core.Path.{◌≡◌, refl, sym, ap, ◌∙◌, subst}
use mathlib.Core.List.{List, [], ◌∷◌, ◌++◌, append_assoc, append-nil, map}
use Prim.Native.Nat.{ℕ, suc, ◌+◌, ◌-◌, ◌≤◌, ◌<◌}
use native.Mathlib.Numerals.{add-one}
use native.Mathlib.Omega.{arith}
use lib.ListN.{length, get_or, drop, length-append, length-drop, length-map}
use lib.Seq.{slice, drop-cons, length-slice}
use Rattle.sheet.specs.Format.{Bytes, Row}
use Rattle.rows.specs.Layouts.{total}
use Rattle.rows.specs.Formulas.{node_rows_in, Readable}
use Rattle.rows.specs.declared.Layout.{Layout}
use Rattle.rows.proofs.Formulas.{length-nodes}
use Rattle.substitution.specs.Changes.{changed_row}
use Rattle.substitution.specs.Output.{copy_in, Within, Laid}
use Rattle.substitution.specs.declared.Span.{Span}
use Rattle.substitution.proofs.Changed.{map-append}
use Rattle.substitution.proofs.Splice.{none-laid, laid_on}
use Rattle.subtrees.specs.Cuts.{every_other}
use Rattle.raw.specs.Expansions.{Climbs, runs_in}
use Rattle.raw.proofs.Source.{nodes-copied}

pub climbs_most : (n : ℕ) {lo : ℕ} (cs : List ℕ) → Climbs lo cs n → lo ≤ n
climbs_most n [] c = c
climbs_most n (x ∷ cs) c = omega (arith, c.0, climbs_most n cs c.1)

-- the runs before cut j are written
pub record Running (s : Layout) (b : Bytes) (table cuts : List ℕ) (t : Layout) (old : Bytes) (start : ℕ) (out : Bytes) (at j : ℕ) : Type 0 where
  pub within : j ≤ length cuts
  pub low : ℕ
  pub climbs : Climbs low (drop j cuts) s.nodes
  pub done : List Row
  pub so_far : Laid t old out start at done
  pub owed : done ++ map (changed_row table) (runs_in s b (drop j cuts)) ≡ map (changed_row table) (runs_in s b cuts)
  pub same_length : length out ≡ length old

module _ (s : Layout) (b : Bytes) (ok : Readable s b) (table cuts : List ℕ) (t : Layout) (old : Bytes) (start : ℕ) where
  abbrev f : Row → Row
  f = changed_row table

  abbrev N : List Row
  N = node_rows_in s b

  pub running_none : Climbs 0 cuts s.nodes → Running s b table cuts t old start old start 0
  running_none c =
      record {
        within = omega arith;
        low = 0;
        climbs = c;
        done = [];
        so_far = none-laid t old start;
        owed = refl;
        same_length = refl;
      }

  none_left : (cs : List ℕ) → length cs ≤ 1 → map f (every_other cs N) ≡ []
  unfolding every_other
  none_left [] h = refl
  none_left (x ∷ []) h = refl
  none_left (x ∷ y ∷ cs) h = absurd (omega arith)

  pub running_all : {out : Bytes} {at j : ℕ} → length cuts ≤ j + 1 → Running s b table cuts t old start out at j
      → Laid t old out start at (map f (runs_in s b cuts))
  running_all {out} {at} {j} h r =
      subst (Laid t old out start at)
      (sym (append-nil r.done) ∙ ap (λ l. r.done ++ l) (sym (none_left (drop j cuts) short)) ∙ r.owed) r.so_far
    where
      short : length (drop j cuts) ≤ 1
      short = omega (arith, length-drop j cuts)

  module _ (room : start + length (runs_in s b cuts) ≤ total t) {out : Bytes} {at j : ℕ} (more : j + 1 < length cuts)
      (r : Running s b table cuts t old start out at j) where
    abbrev from : ℕ
    from = get_or cuts j 0

    abbrev to : ℕ
    to = get_or cuts (j + 1) 0

    abbrev run : Span
    run = record { from = s.variables + from; to = s.variables + to }

    split : drop j cuts ≡ from ∷ to ∷ drop (j + 2) cuts
    split =
        drop-cons cuts j 0 (omega arith) ∙ ap (λ k. from ∷ drop k cuts) (sym (add-one j)) ∙
        ap (λ l. from ∷ l) (drop-cons cuts (j + 1) 0 more ∙ ap (λ k. to ∷ drop k cuts) next)
      where
        next : suc (j + 1) ≡ j + 2
        next = omega arith

    climbing : Climbs r.low (from ∷ to ∷ drop (j + 2) cuts) s.nodes
    climbing = subst (λ l. Climbs r.low l s.nodes) split r.climbs

    to-within : to ≤ s.nodes
    to-within = climbs_most s.nodes (drop (j + 2) cuts) climbing.1.1

    pub run-within : Within run s
    run-within = record { ordered = omega (arith, climbing.1.0); inside = omega (arith, to-within) }

    runs-split : runs_in s b (drop j cuts) ≡ slice from to N ++ runs_in s b (drop (j + 2) cuts)
    unfolding every_other
    runs-split = ap (λ l. every_other l N) split

    pub run_room : at + (s.variables + to - (s.variables + from)) ≤ total t
    run_room =
        omega (
          arith,
          room,
          r.so_far.next_row,
          ap length r.owed,
          length-append r.done (map f (runs_in s b (drop j cuts))),
          length-map (runs_in s b (drop j cuts)) f,
          length-map (runs_in s b cuts) f,
          ap length runs-split,
          length-append (slice from to N) (runs_in s b (drop (j + 2) cuts)),
          length-slice from to N (omega (arith, to-within, length-nodes b ok)),
        )

    pub running-next : {new : Bytes} {next : ℕ} → Laid t out new at next (copy_in s b table run) → length new ≡ length out
        → Running s b table cuts t old start new next (j + 2)
    running-next l e =
        record {
          within = omega arith;
          low = to;
          climbs = climbing.1.1;
          done = r.done ++ copy_in s b table run;
          so_far = laid_on r.so_far l;
          owed =
              append_assoc r.done (copy_in s b table run) (map f (runs_in s b (drop (j + 2) cuts))) ∙
              ap (λ l. r.done ++ l)
              (ap (λ l. l ++ map f (runs_in s b (drop (j + 2) cuts))) (nodes-copied s b ok table from to) ∙
              sym (map-append f (slice from to N) (runs_in s b (drop (j + 2) cuts))) ∙
              ap (map f) (sym runs-split)) ∙
              r.owed;
          same_length = e ∙ r.same_length;
        }
