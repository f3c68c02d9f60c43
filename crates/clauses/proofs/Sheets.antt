-- The sheet of the clauses: its names, its sizes, and the rows that make it.
-- Assumes nothing.
use mathlib.Core.Path.{◌≡◌, refl, sym, ap, ap₂, ◌∙◌, subst, fun_ext}
use mathlib.Core.Bool.{true}
use mathlib.Core.List.{List, [], ◌∷◌, ◌++◌, map, map-append, append_assoc}
use Prim.Native.Nat.{ℕ, zero, suc, ◌+◌, ◌*◌, ◌≤◌, ◌<◌}
use native.Mathlib.Omega.{arith}
use lib.ListN.{length, get_or, take, drop, replicate, length-append, length-map, take-append-drop}
use lib.Seq.{get_or-drop, take_at, drop_at, length-take-le}
use borrow.Author.Tests.{ltb-false}
use Rattle.formula.specs.Tree.{Forest, Formula, rows, rows_all, count}
use Rattle.formula.specs.Outer.{unused, existential}
use Rattle.formula.specs.Clausal.{conjuncts, named_all, clauses, fresh_names, too_few_names, clausal}
use Rattle.formula.proofs.Forests.{count-rows}
use Rattle.sheet.specs.Format.{Bytes, Row, row, Every, sheet_length}
use Rattle.sheet.specs.Sheet.{formula, sheet, binding, binding_row, tree_rows, forest_rows, formula_rows}
use Rattle.sheet.specs.Operations.{padded}
use Rattle.sheet.specs.Strategy.{fits_output}
use Rattle.sheet.specs.Clauses.{clauses_of}
use Rattle.sheet.proofs.Preorder.{length-forest_rows}
use Rattle.sheet.proofs.Limits.{numbered_at, unused-count}
use Rattle.sheet.proofs.RoundTrip.{arguments_fit, length-sheet}
use Rattle.sheet.proofs.Parts.{ArgumentFits}
use Rattle.sheet.proofs.Every.{every_at}
use Rattle.sheet.specs.Limits.{Within}
use Rattle.sheet.proofs.Accepted.{accepted_within}
use Rattle.sheet.proofs.Strategy.Winning.{fits-rows, fits-length}
use Rattle.rows.specs.Formats.{format_of}
use Rattle.rows.specs.Layouts.{format_in, Fits, total, rows_in, Room, sealed, width}
use Rattle.rows.specs.Formulas.{prefix_in, matrix_in, formula_in, Readable}
use Rattle.rows.specs.declared.Layout.{Layout}
use Rattle.rows.proofs.Formulas.{length_prefix}
use Rattle.rows.proofs.Limits.{limits, sound}
use Rattle.rows.proofs.Layouts.{length-rows_in}
use Rattle.prefixes.specs.Places.{binding_at}
use Rattle.polarity.specs.Value.{Numbered}
use Rattle.subtrees.specs.Subtrees.{top, subtree_in}
use Rattle.subtrees.proofs.Siblings.{row-top}
use Rattle.rows.proofs.Sealed.{sealed-sheet, sealed-length}
use Rattle.checking.proofs.CheckedSheets.{sheet_readable, sheet-formula_in}
use Rattle.substitution.specs.Output.{Laid}
use Rattle.substitution.proofs.Splice.{laid_on, laid-all}
use Rattle.clauses.proofs.Tables.{replicate_at}
use Rattle.clauses.specs.declared.survey.Size.{Size}
use Rattle.clauses.specs.Inner.Named.{clauses_from, marks_conjuncts, first_conjunct}
use Rattle.clauses.specs.Inner.Survey.{Clausable}
use Rattle.clauses.proofs.Named.{named-clauses, map-marks_conjuncts}
use Rattle.clauses.proofs.Walking.{walking_first}
use Rattle.clauses.proofs.Surveying.{all_clauses}

-- entries behind the names are 0
behind-zero : (xs ys : List ℕ) → ((j : ℕ) → get_or ys j 0 ≡ 0) → (i : ℕ) → get_or (xs ++ ys) i 0 ≡ get_or xs i 0
behind-zero [] ys h i = h i
behind-zero (x ∷ xs) ys h zero = refl
behind-zero (x ∷ xs) ys h (suc i) = behind-zero xs ys h i

module _ {b : Bytes} {s : Layout} {ends table : List ℕ} {z : Size} (h : Clausable b s ends table z) where
  abbrev H : ℕ
  H = (format_in s).most_variables

  abbrev f : Formula
  f = formula_in s b

  abbrev new : Formula
  new = clausal H f

  pub ok : Readable s b
  ok = sheet_readable h.checked

  same : formula_in s b ≡ formula (format_in s) b
  same = sheet-formula_in h.checked

  pub new_is : clausal (format_in s).most_variables (formula_in s b) ≡ clauses_of (format_in s) b
  new_is = ap (clausal H) same

  -- every number of the prefix and every literal is one of the format
  pub numbered_in : Numbered s b
  unfolding formula_in binding_at
  numbered_in =
      let prefix = ap (λ (g : Formula). g.prefix) same in
      let numbers = (accepted_within (format_in s) b h.checked.tests_pass).is_numbered in
      record {
        few_numbers =
            λ i l. rw prefix
            (omega (
              arith,
              (limits s.format).few_variables,
              numbered_at (format_in s) (formula (format_in s) b).prefix i (binding (row 0 0)) numbers (omega (arith, ap length prefix, length_prefix b ok, l)),
            ));
      }

  pub literals_fit : (i : ℕ) → i < s.nodes → Fits s (top (subtree_in s b i)).argument
  literals_fit i l =
      subst (λ (r : Row). Fits s r.argument) (row-top b ok i l)
      (every_at (ArgumentFits (format_in s).width) (rows_in s b) (s.variables + i) (row 0 0)
      (subst (Every (ArgumentFits (format_in s).width)) ok.is_formula
      (arguments_fit (format_in s) (sound s.format) (formula_in s b) (subst (Within (format_in s)) (sym same) (accepted_within (format_in s) b h.checked.tests_pass))))
      (omega (arith, length-rows_in b ok.room)))

  -- there are numbers enough
  pub enough_left : z.names ≤ length (unused (prefix_in s b) (format_in s).most_variables 1)
  unfolding too_few_names formula_in
  enough_left =
      omega (
        arith,
        h.surveyed.names_are,
        ltb-false (length (unused (prefix_in s b) H 1)) (named_all (conjuncts (matrix_in s b))) (ap (too_few_names H) same ∙ h.enough),
      )

  pub few_names : s.variables + z.names ≤ 1024
  unfolding formula_in
  few_names =
      omega (
        arith,
        enough_left,
        ap (λ (g : Formula). length (unused g.prefix H 1)) same,
        ap (λ (g : Formula). length g.prefix) same,
        unused-count (format_in s) (formula (format_in s) b) (accepted_within (format_in s) b h.checked.tests_pass),
        (limits s.format).few_variables,
        length_prefix b ok,
      )

  names_counted : length (fresh_names H f) ≡ z.names
  unfolding fresh_names formula_in
  names_counted =
      length-take-le (named_all (conjuncts (matrix_in s b))) (unused (prefix_in s b) H 1) (omega (arith, h.surveyed.names_are, enough_left)) ∙
      sym h.surveyed.names_are

  -- the names, and the table of them
  abbrev G : ℕ → ℕ
  G i = get_or (fresh_names H f) i 0

  abbrev first : ℕ
  first = first_conjunct (matrix_in s b)

  abbrev cs : Forest
  cs = conjuncts (matrix_in s b)

  front_is : take first (take s.nodes table) ++ (marks_conjuncts (λ i. i) 0 cs ++ drop s.nodes table) ≡ table
  front_is =
      ap (λ l. take first (take s.nodes table) ++ (l ++ drop s.nodes table)) (sym h.surveyed.are_numbered) ∙
      sym (append_assoc (take first (take s.nodes table)) (drop first (take s.nodes table)) (drop s.nodes table)) ∙
      ap (λ l. l ++ drop s.nodes table) (take-append-drop first (take s.nodes table)) ∙ take-append-drop s.nodes table

  table_at : drop first (map G table) ≡ marks_conjuncts G 0 cs ++ map G (drop s.nodes table)
  table_at =
      let P = take first (take s.nodes table) in
      let M = marks_conjuncts (λ i. i) 0 cs in
      let R = drop s.nodes table in
      let inside : length (map G P) ≡ first
      = length-map P G ∙ length-take-le first (take s.nodes table) (omega (arith, (walking_first b ok refl).within, length-take-le s.nodes table h.has_entries)) in
      ap (λ l. drop first (map G l)) (sym front_is) ∙ ap (drop first) (map-append G P (M ++ R)) ∙ drop_at (map G P) (map G (M ++ R)) first inside ∙
      map-append G M R ∙ ap (λ l. l ++ map G R) (map-marks_conjuncts G cs 0)

  clauses-named : clauses_from (map G table) first cs ≡ clauses G 0 cs
  clauses-named = named-clauses G (map G table) cs first 0 (map G (drop s.nodes table)) table_at

  -- sizes
  pub nodes-new : z.rows + 1 ≡ rows (clausal (format_in s).most_variables (formula_in s b)).matrix
  unfolding clausal formula_in rows
  nodes-new = omega (arith, h.surveyed.rows_are (map G table), ap rows_all clauses-named)

  count-new : z.clauses ≡ count (clauses G 0 cs)
  count-new = h.surveyed.clauses_are (map G table) ∙ ap count clauses-named

  pub variables-new : length (clausal (format_in s).most_variables (formula_in s b)).prefix ≡ s.variables + z.names
  unfolding clausal formula_in
  variables-new =
      length-append (prefix_in s b) (map existential (fresh_names H f)) ∙
      ap₂ ◌+◌ (length_prefix b ok) (length-map (fresh_names H f) existential ∙ names_counted)

  -- the row behind what stands in front of the clauses
  pub front_at : {t : Layout} {old mid : Bytes} {at : ℕ} (ns : List ℕ) → length ns ≡ z.names
      → Laid t old mid 0 at (map binding_row (prefix_in s b ++ map existential ns) ++ (row 5 z.clauses ∷ [])) → at ≡ s.variables + z.names + 1
  front_at ns e l =
      omega (
        arith,
        e,
        l.next_row,
        length-append (map binding_row (prefix_in s b ++ map existential ns)) (row 5 z.clauses ∷ []),
        length-map (prefix_in s b ++ map existential ns) binding_row,
        length-append (prefix_in s b) (map existential ns),
        length-map ns existential,
        length_prefix b ok,
      )

  module _ (len : ℕ) (fit : fits_output (format_in s) len (clauses_of (format_in s) b) ≡ true) where
    fits-new : length (sheet (format_in s) new) ≤ len
    fits-new = subst (λ (g : Formula). length (sheet (format_in s) g) ≤ len) (sym new_is) (fits-length (format_in s) len (clauses_of (format_in s) b) fit)

    pub few_nodes : z.rows + 1 ≤ 8192
    few_nodes =
        omega (
          arith,
          nodes-new,
          ap (λ (g : Formula). rows g.matrix) new_is,
          fits-rows (format_in s) len (clauses_of (format_in s) b) fit,
          (limits s.format).few_nodes,
        )

    pub few_clauses : z.clauses ≤ 8192
    few_clauses = omega (arith, few_nodes, h.surveyed.rows_are [], h.surveyed.clauses_are [], count-rows (all_clauses s b []))

    -- all rows are written, and made a sheet
    module _ {t : Layout} (fs : t.format ≡ s.format) (vs : t.variables ≡ s.variables + z.names) (ns : t.nodes ≡ z.rows + 1) where
      pub clauses-room : Room t len
      unfolding sheet_length
      clauses-room =
          record {
            holds =
                subst (λ (n : ℕ). n ≤ len)
                (length-sheet (format_in s) new ∙ ap₂ (sheet_length (format_in s)) (variables-new ∙ sym vs) (sym nodes-new ∙ sym ns) ∙
                ap (λ g. 2 * (format_of g).width + (1 + (format_of g).width) * (t.variables + t.nodes)) (sym fs)) fits-new;
          }

      pub rows-room : (L : List ℕ) {at : ℕ} → at ≡ s.variables + z.names + 1
          → at + length (forest_rows (clauses_from L (first_conjunct (matrix_in s b)) (conjuncts (matrix_in s b)))) ≡ total t
      rows-room L e = omega (arith, vs, ns, e, h.surveyed.rows_are L, length-forest_rows (all_clauses s b L))

      module _ {fresh L : List ℕ} (given : fresh ≡ take z.names (unused (prefix_in s b) (format_in s).most_variables 1) ++ drop z.names (replicate 1025 0))
          (named : L ≡ map (λ i. get_or fresh i 0) table) where
        fresh-is : fresh ≡ fresh_names H f ++ drop z.names (replicate 1025 0)
        unfolding fresh_names formula_in
        fresh-is = given ∙ ap (λ n. take n (unused (prefix_in s b) H 1) ++ drop z.names (replicate 1025 0)) h.surveyed.names_are

        front-fresh : take z.names fresh ≡ fresh_names H f
        front-fresh = ap (take z.names) fresh-is ∙ take_at (fresh_names H f) (drop z.names (replicate 1025 0)) z.names names_counted

        fresh_at : (i : ℕ) → get_or fresh i 0 ≡ G i
        fresh_at i =
            ap (λ l. get_or l i 0) fresh-is ∙
            behind-zero (fresh_names H f) (drop z.names (replicate 1025 0)) (λ j. get_or-drop z.names (replicate 1025 0) j 0 ∙ replicate_at 0 1025 (z.names + j)) i

        table_is : L ≡ map G table
        table_is = named ∙ ap (λ (k : ℕ → ℕ). map k table) (fun_ext fresh_at)

        rows_new : (map binding_row (prefix_in s b ++ map existential (take z.names fresh)) ++ (row 5 z.clauses ∷ [])) ++ forest_rows (clauses_from L first cs) ≡ formula_rows new
        unfolding formula_rows clausal formula_in tree_rows
        rows_new =
            let P = map binding_row (prefix_in s b ++ map existential (fresh_names H f)) in
            append_assoc (map binding_row (prefix_in s b ++ map existential (take z.names fresh))) (row 5 z.clauses ∷ []) (forest_rows (clauses_from L first cs)) ∙
            ap (λ l. map binding_row (prefix_in s b ++ map existential l) ++ (row 5 z.clauses ∷ forest_rows (clauses_from L first cs))) front-fresh ∙
            ap₂ (λ n l. P ++ (row 5 n ∷ forest_rows l)) count-new (ap (λ l. clauses_from l first cs) table_is ∙ clauses-named)

        module _ {old mid out : Bytes} {at last m : ℕ}
            (front : Laid t old mid 0 at (map binding_row (prefix_in s b ++ map existential (take z.names fresh)) ++ (row 5 z.clauses ∷ [])))
            (back : Laid t mid out at last (forest_rows (clauses_from L (first_conjunct (matrix_in s b)) (conjuncts (matrix_in s b)))))
            (long : length out ≡ len) (all : m ≡ total t) where
          room-new : Room t (length out)
          room-new = record { holds = omega (arith, clauses-room.holds, long) }

          rows_are : rows_in t out ≡ formula_rows new
          rows_are = laid-all room-new (ends_at ∙ rows-room L at-is) (laid_on front back) ∙ rows_new
            where
              at-is : at ≡ s.variables + z.names + 1
              at-is = front_at (take z.names fresh) (ap length front-fresh ∙ names_counted) front

              ends_at : last ≡ at + length (forest_rows (clauses_from L first cs))
              ends_at = back.next_row

          pub clauses-sealed : sealed t m out ≡ padded len (sheet (format_in s) (clauses_of (format_in s) b))
          clauses-sealed =
              ap (λ k. sealed t k out) all ∙ sealed-sheet t out new room-new rows_are (variables-new ∙ sym vs) (sym nodes-new ∙ sym ns) ∙
              ap₂ (λ n g. padded n (sheet (format_of g) new)) long fs ∙ ap (λ (g : Formula). padded len (sheet (format_in s) g)) new_is

          pub clauses-length : 2 * width t + m + width t * m ≡ length (sheet (format_in s) (clauses_of (format_in s) b))
          clauses-length =
              ap (λ k. 2 * width t + k + width t * k) all ∙ sealed-length t out new room-new rows_are (variables-new ∙ sym vs) (sym nodes-new ∙ sym ns) ∙
              ap (λ g. length (sheet (format_of g) new)) fs ∙ ap (λ (g : Formula). length (sheet (format_in s) g)) new_is
