-- The clauses of a matrix row by row: what one row adds, how many rows there are, and that by a right table they are the clauses.
-- Assumes nothing.
use mathlib.Core.Path.{◌≡◌, refl, sym, ap, ap₂, ◌∙◌}
use mathlib.Core.Bool.{Bool, true, false}
use mathlib.Core.List.{List, [], ◌∷◌, ◌++◌, append_assoc, map, map-append}
use Prim.Native.Nat.{ℕ, suc, ◌+◌, ◌*◌, ◌≤◌}
use native.Mathlib.Nat.{add-zero, add_assoc}
use native.Mathlib.Omega.{arith}
use lib.ListN.{length, get_or, drop, length-append}
use lib.Seq.{drop_at, drop-drop, get_or-drop}
use Rattle.formula.specs.Tree.{Op, and, or, Tree, lit, node, Forest, ∅, ◌▸◌, ◌⧺◌, rows, rows_all, count}
use Rattle.formula.specs.Clausal.{operators, operators_all, name, names, implies, defined, defined_all, conjunct, named, named_all, clauses}
use Rattle.formula.proofs.Forests.{⧺-assoc, count-⧺, rows-⧺}
use Rattle.subtrees.specs.Subtrees.{kids}
use Rattle.subtrees.proofs.Forest.{rows-kids}
use Rattle.clauses.specs.Inner.Named.{named_by, names_from, unit_clause, own_clauses, defined_at, defined_from, clauses_from, clauses_left}
use Rattle.clauses.specs.Inner.Named.{marks, marks_all, next_name, marks_conjuncts, marks_left}

-- one row

defined-⧺ : (L : List ℕ) (ts us : Forest) (r : ℕ) → defined_from L r (ts ⧺ us) ≡ defined_from L r ts ⧺ defined_from L (r + rows_all ts) us
unfolding ◌⧺◌ defined_from rows_all
defined-⧺ L ∅ us r = ap (λ n. defined_from L n us) (sym (add-zero r))
defined-⧺ L (t ▸ ts) us r =
    ap (λ l. defined_at L r t ⧺ l)
    (defined-⧺ L ts us (r + rows t) ∙ ap (λ n. defined_from L (r + rows t) ts ⧺ defined_from L n us) (add_assoc r (rows t) (rows_all ts))) ∙
    sym (⧺-assoc (defined_at L r t) (defined_from L (r + rows t) ts) (defined_from L (r + (rows t + rows_all ts)) us))

defined_own : (L : List ℕ) (r : ℕ) (t : Tree) → defined_at L r t ≡ own_clauses L r false t ⧺ defined_from L (suc r) (kids t)
unfolding defined_at ◌⧺◌
defined_own L r (lit s v) = refl
defined_own L r (node o ts) = refl

-- a conjunct's row
pub left-conjunct : (L : List ℕ) (r : ℕ) (t : Tree) (us : Forest)
    → clauses_left L r ∅ (t ▸ us) ≡ own_clauses L r true t ⧺ clauses_left L (suc r) (kids t) us
unfolding clauses_left clauses_from defined_from ◌⧺◌ rows_all
left-conjunct L r t us =
    ap (λ n. clauses_from L n (t ▸ us)) (add-zero r) ∙
    ap (λ n. (own_clauses L r true t ⧺ defined_from L (suc r) (kids t)) ⧺ clauses_from L n us) (omega (arith, rows-kids t)) ∙
    ⧺-assoc (own_clauses L r true t) (defined_from L (suc r) (kids t)) (clauses_from L (suc r + rows_all (kids t)) us)

-- a row below one
pub left_below : (L : List ℕ) (r : ℕ) (t : Tree) (ts us : Forest)
    → clauses_left L r (t ▸ ts) us ≡ own_clauses L r false t ⧺ clauses_left L (suc r) (kids t ⧺ ts) us
unfolding clauses_left defined_from rows_all
left_below L r t ts us =
    let A = own_clauses L r false t in
    let B = defined_from L (suc r) (kids t) in
    let C = defined_from L (r + rows t) ts in
    let E = clauses_from L (r + (rows t + rows_all ts)) us in
    let same : r + rows t ≡ suc r + rows_all (kids t) = omega (arith, rows-kids t) in
    let ends : r + (rows t + rows_all ts) ≡ suc r + rows_all (kids t ⧺ ts) = omega (arith, rows-kids t, rows-⧺ (kids t) ts) in
    ap (λ l. (l ⧺ C) ⧺ E) (defined_own L r t) ∙ ap (λ l. l ⧺ E) (⧺-assoc A B C) ∙ ⧺-assoc A (B ⧺ C) E ∙
    ap₂ (λ l m. A ⧺ (l ⧺ m)) (ap (λ n. B ⧺ defined_from L n ts) same ∙ sym (defined-⧺ L (kids t) ts (suc r)))
    (ap (λ n. clauses_from L n us) ends)

-- how many rows and clauses

rows_named : (n : ℕ) (t : Tree) → rows (named_by n t) ≡ 1
unfolding rows
rows_named n (lit s v) = refl
rows_named n (node o us) = refl

pub rows-names : (L : List ℕ) (r : ℕ) (ts : Forest) → rows_all (names_from L r ts) ≡ count ts
unfolding names_from rows_all count
rows-names L r ∅ = refl
rows-names L r (t ▸ ts) = omega (arith, rows_named (get_or L r 0) t, rows-names L (r + rows t) ts)

pub count-names : (L : List ℕ) (r : ℕ) (ts : Forest) → count (names_from L r ts) ≡ count ts
unfolding names_from count
count-names L r ∅ = refl
count-names L r (t ▸ ts) = ap suc (count-names L (r + rows t) ts)

-- each child's clause has three rows
rows_each : (n : ℕ) (L : List ℕ) (r : ℕ) (ts : Forest) → rows_all (implies and n (names_from L r ts)) ≡ 3 * count ts
unfolding names_from implies rows rows_all count
rows_each n L r ∅ = refl
rows_each n L r (t ▸ ts) = omega (arith, rows_named (get_or L r 0) t, rows_each n L (r + rows t) ts)

count_each : (n : ℕ) (L : List ℕ) (r : ℕ) (ts : Forest) → count (implies and n (names_from L r ts)) ≡ count ts
unfolding names_from implies count
count_each n L r ∅ = refl
count_each n L r (t ▸ ts) = ap suc (count_each n L (r + rows t) ts)

-- one for a conjunct's own clause
unfoldable pub one_if : Bool → ℕ
one_if true = 1
one_if false = 0

rows-unit : (c : Bool) (n : ℕ) (t : Tree) → rows_all (unit_clause c n t) ≡ one_if c
unfolding rows_all one_if
rows-unit true n t = omega (arith, rows_named n t)
rows-unit false n t = refl

count-unit : (c : Bool) (n : ℕ) (t : Tree) → count (unit_clause c n t) ≡ one_if c
unfolding count one_if
count-unit true n t = refl
count-unit false n t = refl

-- the rows and clauses of an OR, and of any other tree
module _ (L : List ℕ) (r : ℕ) where
  pub rows-or : (c : Bool) (ts : Forest) → rows_all (own_clauses L r c (node or ts)) + one_if c ≡ 2 + count ts
  unfolding rows rows_all implies one_if
  rows-or true ts = omega (arith, rows-names L (suc r) ts)
  rows-or false ts = omega (arith, rows-names L (suc r) ts)

  pub count-or : (c : Bool) (ts : Forest) → count (own_clauses L r c (node or ts)) ≡ 1
  unfolding count implies
  count-or true ts = refl
  count-or false ts = refl

  pub rows-and : (c : Bool) (ts : Forest) → rows_all (own_clauses L r c (node and ts)) ≡ one_if c + 3 * count ts
  rows-and c ts =
      rows-⧺ (unit_clause c (get_or L r 0) (node and ts)) (implies and (get_or L r 0) (names_from L (suc r) ts)) ∙
      ap₂ ◌+◌ (rows-unit c (get_or L r 0) (node and ts)) (rows_each (get_or L r 0) L (suc r) ts)

  pub count-and : (c : Bool) (ts : Forest) → count (own_clauses L r c (node and ts)) ≡ one_if c + count ts
  count-and c ts =
      count-⧺ (unit_clause c (get_or L r 0) (node and ts)) (implies and (get_or L r 0) (names_from L (suc r) ts)) ∙
      ap₂ ◌+◌ (count-unit c (get_or L r 0) (node and ts)) (count_each (get_or L r 0) L (suc r) ts)

  pub rows_lit : (c s : Bool) (v : ℕ) → rows_all (own_clauses L r c (lit s v)) ≡ one_if c
  rows_lit c s v = rows-unit c (get_or L r 0) (lit s v)

  pub count_lit : (c s : Bool) (v : ℕ) → count (own_clauses L r c (lit s v)) ≡ one_if c
  count_lit c s v = count-unit c (get_or L r 0) (lit s v)

  few_one : (c : Bool) → one_if c ≤ 1
  unfolding one_if
  few_one true = omega arith
  few_one false = omega arith

  own_few : (c : Bool) (t : Tree) → rows_all (own_clauses L r c t) ≤ 2 + 3 * count (kids t)
  unfolding count
  own_few c (lit s v) = omega (arith, rows_lit c s v, few_one c)
  own_few c (node and ts) = omega (arith, rows-and c ts, few_one c)
  own_few c (node or ts) = omega (arith, rows-or c ts)

-- at most five rows for each row
module _ (L : List ℕ) where
  mutual
    unfolding defined_at rows count ◌⧺◌

    few-at : (t : Tree) (r : ℕ) → rows_all (defined_at L r t) + 3 ≤ 5 * rows t
    few-at (lit s v) r = omega arith
    few-at (node o ts) r =
        omega (
          arith,
          few-defined ts (suc r),
          own_few L r false (node o ts),
          rows-⧺ (own_clauses L r false (node o ts)) (defined_from L (suc r) ts),
        )

    few-defined : (ts : Forest) (r : ℕ) → rows_all (defined_from L r ts) + 3 * count ts ≤ 5 * rows_all ts
    few-defined ∅ r = omega arith
    few-defined (t ▸ ts) r =
        omega (arith, few-at t r, few-defined ts (r + rows t), rows-⧺ (defined_at L r t) (defined_from L (r + rows t) ts))

pub few_clauses : (L : List ℕ) (ts : Forest) (r : ℕ) → rows_all (clauses_from L r ts) ≤ 5 * rows_all ts
unfolding clauses_from rows_all
few_clauses L ∅ r = omega arith
few_clauses L (t ▸ ts) r =
    omega (
      arith,
      few-defined L (kids t) (suc r),
      few_clauses L ts (r + rows t),
      own_few L r true t,
      rows-kids t,
      rows-⧺ (own_clauses L r true t) (defined_from L (suc r) (kids t)),
      rows-⧺ (own_clauses L r true t ⧺ defined_from L (suc r) (kids t)) (clauses_from L (r + rows t) ts),
    )

-- a table of names

split_at : (L : List ℕ) (r : ℕ) (xs ys : List ℕ) {n : ℕ} → drop r L ≡ xs ++ ys → length xs ≡ n → drop (r + n) L ≡ ys
split_at L r xs ys {n} h e = sym (drop-drop n r L) ∙ ap (drop n) h ∙ drop_at xs ys n e

first_at : (L : List ℕ) (r : ℕ) (x : ℕ) (ys : List ℕ) → drop r L ≡ x ∷ ys → get_or L r 0 ≡ x
first_at L r x ys h = ap (λ n. get_or L n 0) (sym (add-zero r)) ∙ sym (get_or-drop r L 0 0) ∙ ap (λ l. get_or l 0 0) h

rest_at : (L : List ℕ) (r : ℕ) (x : ℕ) (ys : List ℕ) → drop r L ≡ x ∷ ys → drop (suc r) L ≡ ys
rest_at L r x ys h = let next : suc r ≡ r + 1 = omega arith in ap (λ n. drop n L) next ∙ split_at L r (x ∷ []) ys h refl

module _ (fresh : ℕ → ℕ) where
  mutual
    unfolding marks rows

    length-marks : (t : Tree) (i : ℕ) → length (marks fresh i t) ≡ rows t
    length-marks (lit s v) i = refl
    length-marks (node o ts) i = ap suc (length-marks-all ts (suc i))

    length-marks-all : (ts : Forest) (i : ℕ) → length (marks_all fresh i ts) ≡ rows_all ts
    length-marks-all ∅ i = refl
    length-marks-all (t ▸ ts) i =
        length-append (marks fresh i t) (marks_all fresh (i + operators t) ts) ∙
        ap₂ ◌+◌ (length-marks t i) (length-marks-all ts (i + operators t))

  pub marks-⧺ : (ts us : Forest) (i : ℕ) → marks_all fresh i (ts ⧺ us) ≡ marks_all fresh i ts ++ marks_all fresh (i + operators_all ts) us
  unfolding marks ◌⧺◌ operators
  marks-⧺ ∅ us i = ap (λ n. marks_all fresh n us) (sym (add-zero i))
  marks-⧺ (t ▸ ts) us i =
      ap (λ l. marks fresh i t ++ l)
      (marks-⧺ ts us (i + operators t) ∙
      ap (λ n. marks_all fresh (i + operators t) ts ++ marks_all fresh n us) (add_assoc i (operators t) (operators_all ts))) ∙
      sym (append_assoc (marks fresh i t) (marks_all fresh (i + operators t) ts) (marks_all fresh (i + (operators t + operators_all ts)) us))

  -- by a right table the names are the names
  module _ (L : List ℕ) where
    first-mark : (t : Tree) (r i : ℕ) (rest : List ℕ) → drop r L ≡ marks fresh i t ++ rest → named_by (get_or L r 0) t ≡ name fresh i t
    unfolding marks name
    first-mark (lit s v) r i rest h = refl
    first-mark (node o ts) r i rest h = ap (lit true) (first_at L r (fresh i) (marks_all fresh (suc i) ts ++ rest) h)

    named-names : (ts : Forest) (r i : ℕ) (rest : List ℕ) → drop r L ≡ marks_all fresh i ts ++ rest → names_from L r ts ≡ names fresh i ts
    unfolding marks names names_from
    named-names ∅ r i rest h = refl
    named-names (t ▸ ts) r i rest h =
        let more = marks_all fresh (i + operators t) ts ++ rest in
        let here : drop r L ≡ marks fresh i t ++ more = h ∙ append_assoc (marks fresh i t) (marks_all fresh (i + operators t) ts) rest in
        ap₂ (λ u us. u ▸ us) (first-mark t r i more here)
        (named-names ts (r + rows t) (i + operators t) rest (split_at L r (marks fresh i t) more here (length-marks t i)))

    own-defined : (o : Op) (ts : Forest) (r i : ℕ) (rest : List ℕ) → drop r L ≡ marks fresh i (node o ts) ++ rest
        → own_clauses L r false (node o ts) ≡ implies o (fresh i) (names fresh (suc i) ts)
    unfolding marks ◌⧺◌
    own-defined and ts r i rest h =
        ap₂ (implies and) (first_at L r (fresh i) (marks_all fresh (suc i) ts ++ rest) h)
        (named-names ts (suc r) (suc i) rest (rest_at L r (fresh i) (marks_all fresh (suc i) ts ++ rest) h))
    own-defined or ts r i rest h =
        ap₂ (implies or) (first_at L r (fresh i) (marks_all fresh (suc i) ts ++ rest) h)
        (named-names ts (suc r) (suc i) rest (rest_at L r (fresh i) (marks_all fresh (suc i) ts ++ rest) h))

    mutual
      unfolding marks defined defined_at

      named-defined : (t : Tree) (r i : ℕ) (rest : List ℕ) → drop r L ≡ marks fresh i t ++ rest → defined_at L r t ≡ defined fresh i t
      named-defined (lit s v) r i rest h = refl
      named-defined (node o ts) r i rest h =
          ap₂ ◌⧺◌ (own-defined o ts r i rest h)
          (named-defined-all ts (suc r) (suc i) rest (rest_at L r (fresh i) (marks_all fresh (suc i) ts ++ rest) h))

      named-defined-all : (ts : Forest) (r i : ℕ) (rest : List ℕ) → drop r L ≡ marks_all fresh i ts ++ rest
          → defined_from L r ts ≡ defined_all fresh i ts
      named-defined-all ∅ r i rest h = refl
      named-defined-all (t ▸ ts) r i rest h =
          let more = marks_all fresh (i + operators t) ts ++ rest in
          let here : drop r L ≡ marks fresh i t ++ more = h ∙ append_assoc (marks fresh i t) (marks_all fresh (i + operators t) ts) rest in
          ap₂ ◌⧺◌ (named-defined t r i more here)
          (named-defined-all ts (r + rows t) (i + operators t) rest (split_at L r (marks fresh i t) more here (length-marks t i)))

    named-conjunct : (t : Tree) (r i : ℕ) (rest : List ℕ) → drop r L ≡ (fresh i ∷ marks_all fresh (next_name i true t) (kids t)) ++ rest
        → own_clauses L r true t ⧺ defined_from L (suc r) (kids t) ≡ conjunct fresh i t
    unfolding conjunct defined defined_from ◌⧺◌
    named-conjunct (lit s v) r i rest h = refl
    named-conjunct (node or ts) r i rest h =
        let below = rest_at L r (fresh i) (marks_all fresh i ts ++ rest) h in
        ap₂ (λ us ws. node or us ▸ ws) (named-names ts (suc r) i rest below) (named-defined-all ts (suc r) i rest below)
    named-conjunct (node and ts) r i rest h =
        let below = rest_at L r (fresh i) (marks_all fresh (suc i) ts ++ rest) h in
        ap₂ (λ (n : ℕ) (us : Forest). lit true n ▸ (implies and n us ⧺ defined_from L (suc r) ts))
        (first_at L r (fresh i) (marks_all fresh (suc i) ts ++ rest) h) (named-names ts (suc r) (suc i) rest below) ∙
        ap (λ ws. lit true (fresh i) ▸ (implies and (fresh i) (names fresh (suc i) ts) ⧺ ws)) (named-defined-all ts (suc r) (suc i) rest below)

    pub named-clauses : (ts : Forest) (r i : ℕ) (rest : List ℕ) → drop r L ≡ marks_conjuncts fresh i ts ++ rest
        → clauses_from L r ts ≡ clauses fresh i ts
    unfolding marks_conjuncts clauses clauses_from
    named-clauses ∅ r i rest h = refl
    named-clauses (t ▸ ts) r i rest h =
        let own = fresh i ∷ marks_all fresh (next_name i true t) (kids t) in
        let more = marks_conjuncts fresh (i + named t) ts ++ rest in
        let here : drop r L ≡ own ++ more = h ∙ append_assoc own (marks_conjuncts fresh (i + named t) ts) rest in
        ap₂ ◌⧺◌ (named-conjunct t r i more here)
        (named-clauses ts (r + rows t) (i + named t) rest
        (split_at L r own more here (ap suc (length-marks-all (kids t) (next_name i true t)) ∙ sym (rows-kids t))))

-- the table, row by row

next-conjunct : (i : ℕ) (t : Tree) → i + named t ≡ next_name i true t + operators_all (kids t)
unfolding named operators
next-conjunct i (lit s v) = refl
next-conjunct i (node and ts) = omega arith
next-conjunct i (node or ts) = refl

next-below : (i : ℕ) (t : Tree) → i + operators t ≡ next_name i false t + operators_all (kids t)
unfolding operators
next-below i (lit s v) = refl
next-below i (node and ts) = omega arith
next-below i (node or ts) = omega arith

operators-⧺ : (ts us : Forest) → operators_all (ts ⧺ us) ≡ operators_all ts + operators_all us
unfolding operators ◌⧺◌
operators-⧺ ∅ us = omega arith
operators-⧺ (t ▸ ts) us = omega (arith, operators-⧺ ts us)

module _ (fresh : ℕ → ℕ) (i : ℕ) (t : Tree) where
  pub marks-conjunct : (us : Forest) → marks_left fresh i ∅ (t ▸ us) ≡ fresh i ∷ marks_left fresh (next_name i true t) (kids t) us
  unfolding marks_left marks_conjuncts marks operators
  marks-conjunct us =
      ap (λ n. marks_conjuncts fresh n (t ▸ us)) (add-zero i) ∙
      ap (λ n. fresh i ∷ (marks_all fresh (next_name i true t) (kids t) ++ marks_conjuncts fresh n us)) (next-conjunct i t)

  marks_own : marks fresh i t ≡ fresh i ∷ marks_all fresh (next_name i false t) (kids t)
  unfolding marks
  marks_own = by t
    where
      by : (u : Tree) → marks fresh i u ≡ fresh i ∷ marks_all fresh (next_name i false u) (kids u)
      by (lit s v) = refl
      by (node and ts) = refl
      by (node or ts) = refl

  pub marks-below : (ts us : Forest) → marks_left fresh i (t ▸ ts) us ≡ fresh i ∷ marks_left fresh (next_name i false t) (kids t ⧺ ts) us
  unfolding marks_left marks operators
  marks-below ts us =
      let n = next_name i false t in
      let M = marks_all fresh n (kids t) in
      let same = next-below i t in
      let ends : i + (operators t + operators_all ts) ≡ n + operators_all (kids t ⧺ ts) = omega (arith, same, operators-⧺ (kids t) ts) in
      ap (λ l. (l ++ marks_all fresh (i + operators t) ts) ++ marks_conjuncts fresh (i + (operators t + operators_all ts)) us) marks_own ∙
      ap₂ (λ k m. fresh i ∷ ((M ++ marks_all fresh k ts) ++ marks_conjuncts fresh m us)) same ends ∙
      ap (λ l. fresh i ∷ (l ++ marks_conjuncts fresh (n + operators_all (kids t ⧺ ts)) us)) (sym (marks-⧺ fresh (kids t) ts n))

-- how many names there are in all
pub names-conjunct : (i : ℕ) (t : Tree) (us : Forest)
    → i + (operators_all ∅ + named_all (t ▸ us)) ≡ next_name i true t + (operators_all (kids t) + named_all us)
unfolding named_all operators
names-conjunct i t us = omega (arith, next-conjunct i t)

pub names-below : (i : ℕ) (t : Tree) (ts us : Forest)
    → i + (operators_all (t ▸ ts) + named_all us) ≡ next_name i false t + (operators_all (kids t ⧺ ts) + named_all us)
unfolding operators
names-below i t ts us = omega (arith, next-below i t, operators-⧺ (kids t) ts)

-- the table with the numbers of the names exchanged for the names
module _ (g : ℕ → ℕ) where
  mutual
    unfolding marks

    map-marks : (t : Tree) (i : ℕ) → map g (marks (λ n. n) i t) ≡ marks g i t
    map-marks (lit s v) i = refl
    map-marks (node o ts) i = ap (λ l. g i ∷ l) (map-marks-all ts (suc i))

    map-marks-all : (ts : Forest) (i : ℕ) → map g (marks_all (λ n. n) i ts) ≡ marks_all g i ts
    map-marks-all ∅ i = refl
    map-marks-all (t ▸ ts) i =
        map-append g (marks (λ n. n) i t) (marks_all (λ n. n) (i + operators t) ts) ∙
        ap₂ ◌++◌ (map-marks t i) (map-marks-all ts (i + operators t))

  pub map-marks_conjuncts : (ts : Forest) (i : ℕ) → map g (marks_conjuncts (λ n. n) i ts) ≡ marks_conjuncts g i ts
  unfolding marks_conjuncts
  map-marks_conjuncts ∅ i = refl
  map-marks_conjuncts (t ▸ ts) i =
      ap (λ l. g i ∷ l)
      (map-append g (marks_all (λ n. n) (next_name i true t) (kids t)) (marks_conjuncts (λ n. n) (i + named t) ts) ∙
      ap₂ ◌++◌ (map-marks-all (kids t) (next_name i true t)) (map-marks_conjuncts ts (i + named t)))
