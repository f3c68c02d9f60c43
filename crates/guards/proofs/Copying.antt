-- Children copied one after the other.
-- Assumes nothing.
use mathlib.Core.Path.{◌≡◌, refl, sym, ap, ◌∙◌, subst}
use mathlib.Core.List.{List, [], ◌∷◌, ◌++◌, append_assoc, append-nil}
use Prim.Native.Nat.{ℕ, ◌+◌, ◌-◌, ◌≤◌, ◌<◌}
use native.Mathlib.Numerals.{add-one}
use native.Mathlib.Omega.{arith}
use lib.ListN.{length, get_or, drop, drop_of_length-le, length-append}
use lib.Seq.{slice, drop-cons, length-slice}
use Rattle.sheet.specs.Format.{Bytes, Row}
use Rattle.rows.specs.Layouts.{total, rows_in}
use Rattle.rows.specs.Formulas.{node_rows_in, Readable}
use Rattle.rows.specs.declared.Layout.{Layout}
use Rattle.rows.proofs.Formulas.{length-nodes}
use Rattle.substitution.specs.Output.{Within, Laid}
use Rattle.substitution.specs.declared.Span.{Span}
use Rattle.substitution.proofs.Splice.{none-laid, laid_on}
use Rattle.raw.proofs.Source.{nodes_part}
use Rattle.guards.specs.Inner.Selections.{children_of, children_rows, Placed}
use Rattle.guards.proofs.Children.{placed_most}

-- the first i children are written
pub record Written (s : Layout) (b : Bytes) (ends ks : List ℕ) (t : Layout) (old : Bytes) (start : ℕ) (out : Bytes) (at i : ℕ) : Type 0 where
  pub within : i ≤ length ks
  pub low : ℕ
  pub placed : Placed ends low (drop i ks) s.nodes
  pub done : List Row
  pub so_far : Laid t old out start at done
  pub owed : done ++ children_rows s b ends (drop i ks) ≡ children_rows s b ends ks
  pub same_length : length out ≡ length old

module _ {s : Layout} {b : Bytes} (ok : Readable s b) {ends ks : List ℕ} {t : Layout} {old : Bytes} {start : ℕ} where
  pub none_written : Placed ends 0 ks s.nodes → Written s b ends ks t old start old start 0
  none_written p =
      record {
        within = omega arith;
        low = 0;
        placed = p;
        done = [];
        so_far = none-laid t old start;
        owed = refl;
        same_length = refl;
      }

  pub all_written : {out : Bytes} {at i : ℕ} → length ks ≤ i → Written s b ends ks t old start out at i
      → Laid t old out start at (children_rows s b ends ks)
  unfolding children_of
  all_written {out} {at} {i} h w =
      subst (Laid t old out start at)
      (sym (append-nil w.done) ∙ ap (λ l. w.done ++ children_of ends l (node_rows_in s b)) (sym (drop_of_length-le ks h)) ∙ w.owed) w.so_far

  module _ (room : start + length (children_rows s b ends ks) ≤ total t) {out : Bytes} {at i : ℕ} (more : i < length ks)
      (w : Written s b ends ks t old start out at i) where
    abbrev from : ℕ
    from = get_or ks i 0

    abbrev to : ℕ
    to = get_or ends from 0

    abbrev child : Span
    child = record { from = s.variables + from; to = s.variables + to }

    split : drop i ks ≡ from ∷ drop (i + 1) ks
    split = drop-cons ks i 0 more ∙ ap (λ k. from ∷ drop k ks) (sym (add-one i))

    here : Placed ends w.low (from ∷ drop (i + 1) ks) s.nodes
    here = subst (λ l. Placed ends w.low l s.nodes) split w.placed

    pub child-ends : (from < to) × (to ≤ s.nodes)
    child-ends = (here.1, placed_most ends (drop (i + 1) ks) s.nodes here.2)

    pub child-within : Within child s
    child-within = record { ordered = omega (arith, child-ends); inside = omega (arith, child-ends) }

    rows_split : children_rows s b ends (drop i ks) ≡ slice from to (node_rows_in s b) ++ children_rows s b ends (drop (i + 1) ks)
    unfolding children_of
    rows_split = ap (λ l. children_of ends l (node_rows_in s b)) split

    pub child-room : at + (s.variables + to - (s.variables + from)) ≤ total t
    child-room =
        omega (
          arith,
          room,
          w.so_far.next_row,
          ap length w.owed,
          length-append w.done (children_rows s b ends (drop i ks)),
          ap length rows_split,
          length-append (slice from to (node_rows_in s b)) (children_rows s b ends (drop (i + 1) ks)),
          length-slice from to (node_rows_in s b) (omega (arith, child-ends, length-nodes b ok)),
        )

    pub next-written : {new : Bytes} {next : ℕ} → Laid t out new at next (slice child.from child.to (rows_in s b)) → length new ≡ length out
        → Written s b ends ks t old start new next (i + 1)
    next-written {new} {next} l e =
        record {
          within = omega arith;
          low = to;
          placed = here.2;
          done = w.done ++ slice from to (node_rows_in s b);
          so_far = laid_on w.so_far (subst (Laid t out new at next) (nodes_part s b ok from to) l);
          owed =
              append_assoc w.done (slice from to (node_rows_in s b)) (children_rows s b ends (drop (i + 1) ks)) ∙ ap (λ l. w.done ++ l) (sym rows_split) ∙ w.owed;
          same_length = e ∙ w.same_length;
        }
