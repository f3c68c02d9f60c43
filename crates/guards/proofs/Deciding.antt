-- What Guards answers and leaves: the initial run, the sheet of the children kept, and the tests before both.
-- Assumes nothing.
use mathlib.Core.Path.{◌≡◌, refl, sym, ap, ap₂, ◌∙◌}
use mathlib.Core.Bool.{Bool, true, false, not, cond, true≢false, false≢true}
use mathlib.Core.List.{List, ◌++◌}
use Prim.Native.Nat.{ℕ, ◌+◌, ◌*◌, ◌≤◌, ◌<◌, min}
use native.Mathlib.Omega.{arith}
use lib.Dec.{ltb}
use lib.ListN.{length, drop, replicate}
use borrow.Author.Tests.{lt-ltb, le-ltb}
use Rattle.formula.specs.Tree.{and, or, Tree, lit, node, Forest, Formula, rows, rows_all}
use Rattle.formula.specs.Solve.{End, ended, stopped, Run, solve}
use Rattle.formula.specs.Guards.{is_and, conjoined, after_run, guarded, Guarded as Finding}
use Rattle.sheet.specs.Format.{Bytes, Format, sheet_length, fits}
use Rattle.sheet.specs.Sheet.{formula_rows, formula, sheet}
use Rattle.sheet.specs.Check.{refused, accepted, answer, check_tests, check}
use Rattle.sheet.specs.Operations.{padded, is_stopped, is_ended, solved, Solving, solving}
use Rattle.sheet.specs.Trace.{room}
use Rattle.sheet.specs.Guards.{Guards, guards_refused, guards_stopped, guards_true, guards_kept}
use Rattle.sheet.specs.Guards.{guards_tests, guards_answer, guards_output, guarding, least_room, guards_call}
use Rattle.sheet.proofs.Tests.{answer-++, refused_first}
use Rattle.rows.specs.Layouts.{format_in, width, total, size, rows_in, Room, sealed}
use Rattle.rows.specs.Formulas.{prefix_in, matrix_in, formula_in}
use Rattle.rows.specs.declared.Layout.{Layout}
use Rattle.rows.proofs.Formulas.{length_prefix}
use Rattle.rows.proofs.Sealed.{sealed-length, sealed-sheet}
use Rattle.checking.specs.Sheets.{Sheet}
use Rattle.checking.proofs.CheckedSheets.{sheet_right, sheet-formula_in}
use Rattle.subtrees.specs.Subtrees.{top}
use Rattle.tidying.proofs.Raw.{length-copied, copied_formula}
use Rattle.solve.specs.Answers.{solved_answer}
use Rattle.solve.specs.Inner.Running.{answered, solution, raw_call}
use Rattle.solve.specs.declared.Solved.{Solved}
use Rattle.guards.specs.declared.sift.Sieve.{Sieve}
use Rattle.guards.specs.Inner.Selections.{guards_in, selection_layout}
use Rattle.guards.specs.Inner.Sieves.{clashing_in, clashed, starts, kept_part, Sifted, initial, Said, found, Telling, telling, kept_call, found_call}
use Rattle.guards.proofs.Writing.{part_room}

-- the root's kind
pub and-kind : (t : Tree) → (top t).kind ≡ 5 → is_and t ≡ true
unfolding is_and
and-kind (lit true v) h = absurd (omega (arith, h))
and-kind (lit false v) h = absurd (omega (arith, h))
and-kind (node and ts) h = refl
and-kind (node or ts) h = absurd (omega (arith, h))

pub other_kind : (t : Tree) → ((top t).kind ≡ 5 → ⊥) → is_and t ≡ false
unfolding is_and
other_kind (lit s v) h = refl
other_kind (node and ts) h = absurd (h refl)
other_kind (node or ts) h = refl

-- a sheet's length
pub sheet-size : {b : Bytes} {s : Layout} → Sheet s.format b s → length b ≡ size s
unfolding sheet_length
sheet-size h = (sheet_right h).right_length

-- the sheet of the children kept

module _ {s : Layout} {b : Bytes} {most : ℕ} {ends table : List ℕ} {g : Sieve} (z : Sifted s b most ends table g) (t : Layout)
    (at : t ≡ selection_layout s (kept_part s g)) (new out : Bytes) (same : length new ≡ length out) (place : size s ≤ length out) where
  abbrev G : Formula
  G = conjoined (prefix_in s b) (clashing_in s b most).those

  pub kept-room : Room t (length new)
  kept-room =
      rw at
      (part_room z.chosen
      (record { holds = omega (arith, place, same) }))

  module _ (is : rows_in t new ≡ formula_rows (conjoined (prefix_in s b) (guards_in s b ends (starts table g) s.nodes))) where
    rows_are : rows_in t new ≡ formula_rows G
    rows_are = is ∙ ap (λ (us : Forest). formula_rows (conjoined (prefix_in s b) us)) z.those_are

    variables_are : length G.prefix ≡ t.variables
    variables_are = length_prefix b z.chosen.readable ∙ ap (λ (l : Layout). l.variables) (sym at)

    nodes_are : rows G.matrix ≡ t.nodes
    unfolding rows
    nodes_are = omega (arith, ap (λ (l : Layout). l.nodes) at, z.chosen.long, ap rows_all z.those_are)

    same-sheet : sheet (format_in t) G ≡ sheet (format_in s) G
    same-sheet = ap (λ (l : Layout). sheet (format_in l) G) at

    pub kept-told : {n : ℕ} {final : Bytes} → n ≡ 2 * width t + total t + width t * total t → final ≡ sealed t (total t) new
        → record { answer = guards_kept n g.stops; output = final } ≡ kept_call s b out most
    unfolding telling guards_answer guards_output
    kept-told e f =
        ap₂ (λ (a : Guards) (o : Bytes). record { answer = a; output = o })
        (ap₂ guards_kept (e ∙ sealed-length t new G kept-room rows_are variables_are nodes_are ∙ ap length same-sheet) z.stops_are)
        (f ∙ sealed-sheet t new G kept-room rows_are variables_are nodes_are ∙ ap₂ padded same same-sheet)

-- the initial run

module _ (s : Layout) (b : Bytes) (most : ℕ) where
  abbrev first_run : Run
  first_run = initial s b most

  as_ended : {e : End} → first_run.end ≡ e
      → found s b most ≡ after_run e first_run.state (prefix_in s b) (clashing_in s b most)
  unfolding guarded formula_in
  as_ended k = ap (λ (e : End). after_run e first_run.state (prefix_in s b) (clashing_in s b most)) k

  -- stopped or true it is the answer, and the output is cleared
  pub stopped_told : (x n m : ℕ) (out : Bytes) {zeros : Bytes} → is_stopped x n m ≡ answered first_run → zeros ≡ replicate (length out) 0
      → record { answer = guards_stopped x n m; output = zeros } ≡ found_call s b out most
  unfolding telling after_run guards_answer guards_output solved
  stopped_told x n m out {zeros} k z = by first_run.end refl k
    where
      by : (e : End) → first_run.end ≡ e → is_stopped x n m ≡ solved e first_run.state
          → record { answer = guards_stopped x n m; output = zeros } ≡ found_call s b out most
      by (ended v) e l = let z : ◌≡◌ {A = ℕ} 0 1 = cc in absurd (omega arith)
      by (stopped y) e l =
          let told : guards_stopped x n m ≡ guards_stopped y first_run.state.settles first_run.state.expands = cc in
          ap₂ (λ (a : Guards) (o : Bytes). record { answer = a; output = o }) told z ∙ ap (telling s out) (sym (as_ended e))

  pub true_told : (n m : ℕ) (out : Bytes) {zeros : Bytes} → is_ended true n m ≡ answered first_run → zeros ≡ replicate (length out) 0
      → record { answer = guards_true n m; output = zeros } ≡ found_call s b out most
  unfolding telling after_run guards_answer guards_output solved
  true_told n m out {zeros} k z = by first_run.end refl k
    where
      by : (e : End) → first_run.end ≡ e → is_ended true n m ≡ solved e first_run.state
          → record { answer = guards_true n m; output = zeros } ≡ found_call s b out most
      by (stopped x) e l = let z : ◌≡◌ {A = ℕ} 0 1 = cc in absurd (omega arith)
      by (ended false) e l =
          let same : true ≡ false = cc in
          absurd (true≢false same)
      by (ended true) e l =
          let told : guards_true n m ≡ guards_true first_run.state.settles first_run.state.expands = cc in
          ap₂ (λ (a : Guards) (o : Bytes). record { answer = a; output = o }) told z ∙ ap (telling s out) (sym (as_ended e))

  -- false, the children are sifted
  pub false_sifts : (n m : ℕ) → is_ended false n m ≡ answered first_run → clashed s b most ≡ found s b most
  unfolding after_run solved
  false_sifts n m k = by first_run.end refl k
    where
      by : (e : End) → first_run.end ≡ e → is_ended false n m ≡ solved e first_run.state → clashed s b most ≡ found s b most
      by (stopped x) e l = let z : ◌≡◌ {A = ℕ} 0 1 = cc in absurd (omega arith)
      by (ended true) e l =
          let same : false ≡ true = cc in
          absurd (false≢true same)
      by (ended false) e l = sym (as_ended e)

-- the sheet copied to the first buffer: its run is the initial one
module _ {s : Layout} {b : Bytes} (h : Sheet s.format b s) (first second : Bytes) (l : length b ≤ length first) {copied : Bytes}
    (is : copied ≡ b ++ drop (length b) first) where
  copied-run : solution s copied second ≡ initial s b (room first second)
  copied-run =
      ap₂ (λ (n : ℕ) (f : Formula). solve (fits (format_in s) (min n (length second))) f) (length-copied h first l is)
      (copied_formula h first l is ∙ sym (sheet-formula_in h))

  pub copied-said : (a : Solved) {first' second' : Bytes} → record { answer = solved_answer a; first = first'; second = second' } ≡ raw_call s copied second
      → Said s b (room first second) a
  unfolding raw_call solving
  copied-said a e = ap (λ (x : Solving). x.answer) e ∙ ap answered copied-run

-- the tests

module _ (F : Format) (b out first second : Bytes) where
  abbrev whole : Finding
  whole = guarded (fits F (room first second)) (formula F b)

  abbrev least : ℕ
  least = least_room out first second

  refused_call : {k p : ℕ} → refused k p ≡ answer (guards_tests F b least) whole
      → record { answer = guards_refused k p; output = out; first = first; second = second } ≡ guards_call F b out first second
  unfolding guards_call guarding
  refused_call e = ap (guarding F out first second) e

  -- 1 to 8
  pub unchecked_call : {k p : ℕ} → refused k p ≡ check F b
      → record { answer = guards_refused k p; output = out; first = first; second = second } ≡ guards_call F b out first second
  unfolding check guards_tests
  unchecked_call e = refused_call (refused_first (check_tests F b) _ _ _ e)

module _ {b : Bytes} {s : Layout} (h : Sheet s.format b s) (out first second : Bytes) where
  abbrev H : Format
  H = format_in s

  abbrev all : Finding
  all = whole H b out first second

  matrix_is : (formula H b).matrix ≡ matrix_in s b
  unfolding formula_in
  matrix_is = ap (λ (f : Formula). f.matrix) (sym (sheet-formula_in h))

  tested : (m n : Bool) → is_and (matrix_in s b) ≡ m → ltb (least_room out first second) (length b) ≡ n
      → answer (guards_tests H b (least_room out first second)) all ≡ cond (not m) (refused 23 0) (cond n (refused 13 0) (accepted all))
  unfolding guards_tests answer
  tested m n e k =
      answer-++ (check_tests H b) _ all h.tests_pass ∙
      ap₂ (λ (x y : Bool). cond (not x) (refused 23 0) (cond y (refused 13 0) (accepted all))) (ap is_and matrix_is ∙ e) k

  -- 23 the root isn't AND, 13 a buffer shorter than the sheet
  pub other_root : is_and (matrix_in s b) ≡ false
      → record { answer = guards_refused 23 0; output = out; first = first; second = second } ≡ guards_call H b out first second
  other_root e = refused_call H b out first second (sym (tested false (ltb (least_room out first second) (length b)) e refl))

  pub short_call : is_and (matrix_in s b) ≡ true → least_room out first second < length b
      → record { answer = guards_refused 13 0; output = out; first = first; second = second } ≡ guards_call H b out first second
  short_call e l =
      refused_call H b out first second (sym (tested true true e (lt-ltb (least_room out first second) (length b) l)))

  -- what is found
  pub told_call : is_and (matrix_in s b) ≡ true → length b ≤ least_room out first second → {a : Guards} {out' first' second' : Bytes}
      → record { answer = a; output = out' } ≡ found_call s b out (room first second)
      → first' ≡ replicate (length first) 0 → second' ≡ replicate (length second) 0
      → record { answer = a; output = out'; first = first'; second = second' } ≡ guards_call H b out first second
  unfolding telling guards_call guarding
  told_call e l {a} {out'} told zeros zeros' =
      ap₂ (λ (x y : Bytes). record { answer = a; output = out'; first = x; second = y }) zeros zeros' ∙
      ap (λ (x : Telling). record { answer = x.answer; output = x.output; first = replicate (length first) 0; second = replicate (length second) 0 })
      (told ∙ ap (λ (f : Formula). telling s out (guarded (fits H (room first second)) f)) (sheet-formula_in h)) ∙
      ap (guarding H out first second) (sym (tested true false e (le-ltb (least_room out first second) (length b) l)))
