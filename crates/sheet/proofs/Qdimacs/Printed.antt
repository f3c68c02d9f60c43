-- A formula whose matrix is AND of ORs of literals, printed and read: the sheet is the formula's own.
-- Assumes nothing.
use mathlib.Core.Path.{◌≡◌, refl, sym, ◌∙◌, ap, ap₂, subst}
use mathlib.Core.Bool.{Bool, true, false, not, ◌&&◌, ◌||◌, cond, false≢true}
use mathlib.Core.List.{List, [], ◌∷◌, ◌++◌, append_assoc, append-nil, map, flatten, flat_map, map-append}
use mathlib.Core.Logic.{⊎_elim}
use Prim.Native.Nat.{ℕ, zero, suc, ◌+◌, ◌/◌, ◌%◌, ◌≤◌, ◌<◌}
use native.Mathlib.Omega.{arith}
use lib.Dec.{eqb, ltb, leb}
use lib.ListN.{length, length-map}
use borrow.Author.Tests.{ltb-true, ltb-false, le-ltb, le-leb, leb-true, eqb-true, eq-eqb, ne_eqb, not-true, not-false}
use Rattle.formula.specs.Tree.{and, or, Quantifier, Tree, lit, node, Forest, ∅, ◌▸◌, Binding, Prefix, Formula, Literals, binds, distinct, rows, has, has_any, closed, some_child}
use Rattle.formula.specs.Reduce.{is_literal, is_clause}
use Rattle.formula.proofs.Booleans.{and_parts, or-none, or_parts, or_cases, or_later}
use Rattle.sheet.specs.Format.{Bytes, Format, Every}
use Rattle.sheet.specs.Qdimacs.{split, is_nil, nonempty, all, line_end, blank, words, digit, unsigned, number_from, decimal_before}
use Rattle.sheet.specs.Qdimacs.{decimal, magnitude, is_word, Token, opener, plain, token, is_plain, is_whole, absolute, is_end}
use Rattle.sheet.specs.Qdimacs.{are_clauses, is_quantified, in_order, quantified, bindings, bound, clauses, literals, clause_trees}
use Rattle.sheet.specs.Qdimacs.{named, is_free, free_up_to, is_comment, Header, header_of, text_header, tokens_below, matrix_of, said}
use Rattle.sheet.specs.Qdimacs.{qdimacs, above_count, numbers_of, well_listed, qdimacs_call, header_text, list_text, literal_word}
use Rattle.sheet.specs.Qdimacs.{literal_words, clause_words, clauses_words, row_words, letter, highest, printed, is_clause_set}
use Rattle.sheet.specs.Sheet.{sheet}
use Rattle.sheet.specs.Limits.{numbered, Within}
use Rattle.sheet.proofs.Every.{every-++}
use Rattle.sheet.proofs.Limits.{numbered-∷, binds_positive}
use Rattle.sheet.proofs.Qdimacs.Lists.{all-++, all-leads}
use Rattle.sheet.specs.Texts.{Uncut, separator, separated, is_skipped, TextWords, lists, header_fails, counts_fail}
use Rattle.sheet.proofs.Qdimacs.Words.{nonempty_word, nonempty-last, separated_word, at_header, unsigned-magnitude, plain_token, negated, minus-token}
use Rattle.sheet.proofs.Qdimacs.Joined.{joined, clauses-all, clauses-bind-none, lists-joined, well_listed-joined}
use Rattle.sheet.proofs.Qdimacs.Answers.{accepts}
use Rattle.sheet.specs.Operations.{holds}
use Rattle.sheet.proofs.Qdimacs.Accepted.{whole_unquantified, named-++, named-lists}

-- decimal

decimal_before-number : (k n : ℕ) (w : Bytes) → n < k → number_from 0 (decimal_before k n w) ≡ number_from n w
unfolding decimal_before number_from
decimal_before-number zero n w l = absurd (omega arith)
decimal_before-number (suc k) n w l = by (ltb n 10) refl (decimal_before-number k (n / 10) ((48 + n % 10) ∷ w))
  where
    by : (m : Bool) → ltb n 10 ≡ m
        → (n / 10 < k → number_from 0 (decimal_before k (n / 10) ((48 + n % 10) ∷ w)) ≡ number_from (n / 10) ((48 + n % 10) ∷ w))
        → number_from 0 (cond m ((48 + n) ∷ w) (decimal_before k (n / 10) ((48 + n % 10) ∷ w))) ≡ number_from n w
    by true e rest = ap (λ (d : ℕ). number_from d w) (omega arith)
    by false e rest =
        let large = ltb-false n 10 e in
        rest (omega arith) ∙ ap (λ (d : ℕ). number_from d w) (omega arith)

pub number-decimal : (n : ℕ) → number_from 0 (decimal n) ≡ n
unfolding decimal number_from
number-decimal n = decimal_before-number (suc n) n [] (omega arith)

digit-of : (n : ℕ) → n < 10 → digit (48 + n) ≡ true
digit-of n l = ap₂ ◌&&◌ (le-leb 48 (48 + n) (omega arith)) (le-leb (48 + n) 57 (omega arith))

decimal_before-digits : (k n : ℕ) (w : Bytes) → n < k → all digit w ≡ true → unsigned (decimal_before k n w) ≡ true
unfolding decimal_before unsigned all is_nil
decimal_before-digits zero n w l h = absurd (omega arith)
decimal_before-digits (suc k) n w l h = by (ltb n 10) refl (decimal_before-digits k (n / 10) ((48 + n % 10) ∷ w))
  where
    by : (m : Bool) → ltb n 10 ≡ m
        → (n / 10 < k → (digit (48 + n % 10) && all digit w) ≡ true → unsigned (decimal_before k (n / 10) ((48 + n % 10) ∷ w)) ≡ true)
        → unsigned (cond m ((48 + n) ∷ w) (decimal_before k (n / 10) ((48 + n % 10) ∷ w))) ≡ true
    by true e rest = ap₂ ◌&&◌ (digit-of n (ltb-true n 10 e)) h
    by false e rest =
        let large = ltb-false n 10 e in
        rest (omega arith) (ap₂ ◌&&◌ (digit-of (n % 10) (omega arith)) h)

pub unsigned-decimal : (n : ℕ) → unsigned (decimal n) ≡ true
unfolding decimal all
unsigned-decimal n = decimal_before-digits (suc n) n [] (omega arith) refl

-- words: not empty, and no separator in them

pub record IsWord (w : Bytes) : Type 0 where
  pub some_byte : is_nil w ≡ false
  pub no_separator : Uncut separator w

digit_no_separator : (c : ℕ) → digit c ≡ true → not (separator c) ≡ true
digit_no_separator c h =
    let b = and_parts (leb 48 c) (leb c 57) h in
    let low = leb-true 48 c b.0 in
    ap not
    (or-none (or-none (or-none (ne_eqb c 32 (λ e. omega arith)) (ne_eqb c 9 (λ e. omega arith))) (ne_eqb c 13 (λ e. omega arith)))
    (ne_eqb c 10 (λ e. omega arith)))

unsigned-is_word : (w : Bytes) → unsigned w ≡ true → IsWord w
unfolding unsigned
unsigned-is_word w h =
    let b = and_parts (not (is_nil w)) (all digit w) h in
    record { some_byte = not-true (is_nil w) b.0; no_separator = all-leads digit (λ c. not (separator c)) digit_no_separator w b.1 }

decimal-is_word : (n : ℕ) → IsWord (decimal n)
decimal-is_word n = unsigned-is_word (decimal n) (unsigned-decimal n)

-- what stands between separators is neither blank nor a line end
separator-blank : (c : ℕ) → not (separator c) ≡ true → not (blank c) ≡ true
separator-blank c h = ap not (or_parts (blank c) (line_end c) (not-true (separator c) h)).0

separator-line_end : (c : ℕ) → not (separator c) ≡ true → not (line_end c) ≡ true
separator-line_end c h = ap not (or_parts (blank c) (line_end c) (not-true (separator c) h)).1

no_blank : (w : Bytes) → Uncut separator w → Uncut blank w
no_blank w h = all-leads (λ c. not (separator c)) (λ c. not (blank c)) separator-blank w h

no_line_end : (w : Bytes) → Uncut separator w → Uncut line_end w
no_line_end w h = all-leads (λ c. not (separator c)) (λ c. not (line_end c)) separator-line_end w h

-- the header

module _ (v c : ℕ) where
  header-line : Uncut line_end (header_text v c)
  unfolding header_text all
  header-line =
      let d = all-++ (λ x. not (line_end x)) (decimal v) (32 ∷ decimal c) in
      d ∙ ap₂ ◌&&◌ (no_line_end (decimal v) (decimal-is_word v).no_separator) (no_line_end (decimal c) (decimal-is_word c).no_separator)

  header_text-words : words (header_text v c) ≡ (112 ∷ []) ∷ (99 ∷ 110 ∷ 102 ∷ []) ∷ decimal v ∷ decimal c ∷ []
  unfolding header_text words is_nil all
  header_text-words =
      let w = decimal-is_word v in
      let x = decimal-is_word c in
      nonempty_word blank (112 ∷ []) 32 (99 ∷ 110 ∷ 102 ∷ 32 ∷ decimal v ++ 32 ∷ decimal c) refl refl refl ∙
      ap {B = List Bytes} (λ ws. (112 ∷ []) ∷ ws)
      (nonempty_word blank (99 ∷ 110 ∷ 102 ∷ []) 32 (decimal v ++ 32 ∷ decimal c) refl refl refl ∙
      ap {B = List Bytes} (λ ws. (99 ∷ 110 ∷ 102 ∷ []) ∷ ws)
      (nonempty_word blank (decimal v) 32 (decimal c) w.some_byte (no_blank (decimal v) w.no_separator) refl ∙
      ap {B = List Bytes} (λ ws. decimal v ∷ ws) (nonempty-last blank (decimal c) x.some_byte (no_blank (decimal c) x.no_separator))))

  header_heads : is_skipped (header_text v c) ≡ false
  unfolding is_comment header_text is_nil
  header_heads = ap (λ (ws : List Bytes). is_nil ws) header_text-words

  header-printed : header_of (words (header_text v c)) ≡ record { well_formed = true; variable_count = v; clause_count = c }
  unfolding header_of is_word
  header-printed =
      ap header_of header_text-words ∙
      rw (
        unsigned-decimal v,
        unsigned-decimal c,
        unsigned-magnitude (decimal v) (unsigned-decimal v),
        unsigned-magnitude (decimal c) (unsigned-decimal c),
        number-decimal v,
        number-decimal c,
      )

-- the lists

spaced_words : (ws : List Bytes) (r : Bytes) → Every IsWord ws → separated (flat_map (λ w. w ++ 32 ∷ []) ws ++ r) ≡ ws ++ separated r
unfolding flat_map
spaced_words [] r h = refl
spaced_words (w ∷ ws) r h =
    let rest = flat_map (λ (x : Bytes). x ++ 32 ∷ []) ws ++ r in
    ap separated (append_assoc (w ++ 32 ∷ []) (flat_map (λ x. x ++ 32 ∷ []) ws) r ∙ append_assoc w (32 ∷ []) rest) ∙
    separated_word w 32 rest h.0.some_byte h.0.no_separator refl ∙ ap {B = List Bytes} (λ us. w ∷ us) (spaced_words ws r h.1)

abbrev zero_word : Bytes
zero_word = 48 ∷ []

list_words : (ws : List Bytes) (r : Bytes) → Every IsWord ws → separated (list_text ws ++ r) ≡ (ws ++ zero_word ∷ []) ++ separated r
unfolding list_text is_nil all
list_words ws r h =
    ap separated (append_assoc (flat_map (λ x. x ++ 32 ∷ []) ws) (48 ∷ 10 ∷ []) r) ∙ spaced_words ws (48 ∷ 10 ∷ r) h ∙
    ap (λ (us : List Bytes). ws ++ us) (separated_word zero_word 10 r refl refl refl) ∙ sym (append_assoc ws (zero_word ∷ []) (separated r))

lists-words : (wss : List (List Bytes)) → Every (Every IsWord) wss → separated (flat_map list_text wss) ≡ flat_map (λ ws. ws ++ zero_word ∷ []) wss
unfolding flat_map separated split nonempty is_nil
lists-words [] h = refl
lists-words (ws ∷ wss) h =
    list_words ws (flat_map list_text wss) h.0 ∙ ap (λ (us : List Bytes). (ws ++ zero_word ∷ []) ++ us) (lists-words wss h.1)

tokens_joined : (wss : List (List Bytes)) → map token (flat_map (λ ws. ws ++ zero_word ∷ []) wss) ≡ joined (map (map token) wss)
unfolding flat_map token is_word unsigned is_nil all magnitude number_from
tokens_joined [] = refl
tokens_joined (ws ∷ wss) =
    map-append token (ws ++ zero_word ∷ []) (flat_map (λ us. us ++ zero_word ∷ []) wss) ∙
    ap₂ (λ (k l : List Token). k ++ l) (map-append token ws (zero_word ∷ []) ∙ ap (λ (t : Token). map token ws ++ t ∷ []) zero-token) (tokens_joined wss)
  where
    zero-token : token zero_word ≡ plain 0
    zero-token = refl

-- literals of variables that are bound

module _ (p : Prefix) (above_zero : (v : ℕ) → binds p v ≡ true → 1 ≤ v) where
  abbrev unbound : Literals
  unbound s v = not (binds p v)

  -- a token that says a literal
  record Says (t : Tree) (k : Token) : Type 0 where
    as_whole : is_whole k ≡ true
    as_inner : not (is_end k) ≡ true
    as_tree : lit (is_plain k) (absolute k) ≡ t

  positive_says : (v : ℕ) → 1 ≤ v → Says (lit true v) (plain v)
  positive_says v low = record { as_whole = refl; as_inner = ap not (ne_eqb v 0 (λ e. omega arith)); as_tree = refl }

  negative_says : (v : ℕ) → 1 ≤ v → Says (lit false v) (negated v)
  negative_says zero low = absurd (omega arith)
  negative_says (suc v) low = record { as_whole = refl; as_inner = refl; as_tree = refl }

  record LiteralSaid (t : Tree) : Type 0 where
    as_word : IsWord (literal_word t)
    as_token : Says t (token (literal_word t))

  literal_said : (t : Tree) → is_literal t ≡ true → has unbound t ≡ false → LiteralSaid t
  unfolding is_literal has is_nil all
  literal_said (lit true v) h k =
      let low = above_zero v (not-false (binds p v) k) in
      record {
        as_word = decimal-is_word v;
        as_token =
            subst (Says (lit true v)) (ap plain (sym (number-decimal v)) ∙ sym (plain_token (decimal v) (unsigned-decimal v)))
            (positive_says v low);
      }
  literal_said (lit false v) h k =
      let low = above_zero v (not-false (binds p v) k) in
      record {
        as_word = record { some_byte = refl; no_separator = (decimal-is_word v).no_separator };
        as_token =
            subst (Says (lit false v)) (ap negated (sym (number-decimal v)) ∙ sym (minus-token (decimal v) (unsigned-decimal v)))
            (negative_says v low);
      }
  literal_said (node o ts) h k = absurd (false≢true h)

  -- a clause
  record ClauseSaid (ts : Forest) (ws : List Bytes) : Type 0 where
    its_words : Every IsWord ws
    all_whole : all is_whole (map token ws) ≡ true
    no_end : Uncut is_end (map token ws)
    its_literals : literals (map token ws) ≡ ts

  literals_said : (ts : Forest) → some_child (λ t. not (is_literal t)) ts ≡ false → has_any unbound ts ≡ false → ClauseSaid ts (literal_words ts)
  unfolding some_child has literal_words literals all
  literals_said ∅ h k = record { its_words = tt; all_whole = refl; no_end = refl; its_literals = refl }
  literals_said (t ▸ ts) h k =
      let a = or_parts (not (is_literal t)) (some_child (λ u. not (is_literal u)) ts) h in
      let b = or_parts (has unbound t) (has_any unbound ts) k in
      let l = literal_said t (not-false (is_literal t) a.0) b.0 in
      let r = literals_said ts a.1 b.1 in
      record {
        its_words = (l.as_word, r.its_words);
        all_whole = ap₂ ◌&&◌ l.as_token.as_whole r.all_whole;
        no_end = ap₂ ◌&&◌ l.as_token.as_inner r.no_end;
        its_literals = ap₂ ◌▸◌ l.as_token.as_tree r.its_literals;
      }

  -- the clauses
  record ClausesSaid (ts : Forest) (wss : List (List Bytes)) : Type 0 where
    their_words : Every (Every IsWord) wss
    all_clauses : are_clauses (map (map token) wss) ≡ true
    no_ends : Every (Uncut is_end) (map (map token) wss)
    their_trees : clause_trees (map (map token) wss) ≡ ts

  abbrev no_clause : Tree → Bool
  no_clause t = is_literal t || not (is_clause t)

  clause_said : (t : Tree) → no_clause t ≡ false → has unbound t ≡ false → (ts : Forest) × (node or ts ≡ t) × ClauseSaid ts (clause_words t)
  unfolding is_literal is_clause has
  clause_said (lit s v) h k = absurd (false≢true (sym h))
  clause_said (node and ts) h k = absurd (false≢true (sym h))
  clause_said (node or ts) h k = (ts, refl, literals_said ts (not-true _ (not-false _ h)) k)

  clauses_said : (ts : Forest) → some_child no_clause ts ≡ false → has_any unbound ts ≡ false → ClausesSaid ts (clauses_words ts)
  unfolding some_child has clauses_words are_clauses all clause_trees
  clauses_said ∅ h k = record { their_words = tt; all_clauses = refl; no_ends = tt; their_trees = refl }
  clauses_said (t ▸ ts) h k =
      let a = or_parts (no_clause t) (some_child no_clause ts) h in
      let b = or_parts (has unbound t) (has_any unbound ts) k in
      let c = clause_said t a.0 b.0 in
      let r = clauses_said ts a.1 b.1 in
      record {
        their_words = (c.2.its_words, r.their_words);
        all_clauses = ap₂ ◌&&◌ c.2.all_whole r.all_clauses;
        no_ends = (c.2.no_end, r.no_ends);
        their_trees = ap₂ ◌▸◌ (ap (node or) c.2.its_literals ∙ c.1) r.their_trees;
      }

-- rows of the prefix

abbrev row_tokens : Binding → List Token
row_tokens z = opener z.quantifier ∷ plain z.variable ∷ []

token-row : (z : Binding) → map token (row_words z) ≡ row_tokens z
unfolding token is_word
token-row z =
    ap₂ (λ (k l : Token). k ∷ l ∷ []) (by z.quantifier) (plain_token (decimal z.variable) (unsigned-decimal z.variable) ∙ ap plain (number-decimal z.variable))
  where
    by : (q : Quantifier) → token (letter q ∷ []) ≡ opener q
    by or = refl
    by and = refl

row_is_words : (z : Binding) → Every IsWord (row_words z)
unfolding is_nil all
row_is_words z = (by z.quantifier, (decimal-is_word z.variable, tt))
  where
    by : (q : Quantifier) → IsWord (letter q ∷ [])
    by or = record { some_byte = refl; no_separator = refl }
    by and = record { some_byte = refl; no_separator = refl }

rows_are_words : (p : Prefix) → Every (Every IsWord) (map row_words p)
rows_are_words [] = tt
rows_are_words (z ∷ p) = (row_is_words z, rows_are_words p)

tokens_rows : (p : Prefix) → map (map token) (map row_words p) ≡ map row_tokens p
tokens_rows [] = refl
tokens_rows (z ∷ p) = ap₂ {C = List (List Token)} (λ k r. k ∷ r) (token-row z) (tokens_rows p)

-- rows, then clauses
module _ (cs : List (List Token)) (h : are_clauses cs ≡ true) where
  rows_in_order : (p : Prefix) → in_order (map row_tokens p ++ cs) ≡ true
  unfolding in_order are_clauses is_quantified all
  rows_in_order [] = by cs h
    where
      by : (ls : List (List Token)) → are_clauses ls ≡ true → in_order ls ≡ true
      by [] k = refl
      by (l ∷ ls) k = rw (whole_unquantified l (and_parts (all is_whole l) (are_clauses ls) k).0) k
  rows_in_order (z ∷ p) = rows_in_order p

  bound-rows : (p : Prefix) → bound (map row_tokens p ++ cs) ≡ p
  unfolding bound flat_map bindings quantified
  bound-rows [] = clauses-bind-none cs h
  bound-rows (z ∷ p) = ap (λ (r : Prefix). z ∷ r) (bound-rows p)

  clauses-rows : (p : Prefix) → clauses (map row_tokens p ++ cs) ≡ cs
  unfolding clauses is_quantified
  clauses-rows [] = clauses-all cs h
  clauses-rows (z ∷ p) = clauses-rows p

rows_uncut : (p : Prefix) → ((v : ℕ) → binds p v ≡ true → 1 ≤ v) → Every (Uncut is_end) (map row_tokens p)
unfolding binds all
rows_uncut [] f = tt
rows_uncut (z ∷ p) f =
    let low = f z.variable (ap (λ (b : Bool). b || binds p z.variable) (eq-eqb z.variable z.variable refl)) in
    (ap (λ (b : Bool). not b && true) (ne_eqb z.variable 0 (λ e. omega arith)), rows_uncut p (λ v h. f v (or_later (eqb z.variable v) h)))

-- what clauses name is bound

named-literals : (B : ℕ → Bool) (x : ℕ) (c : List Token) → has_any (λ s v. not (B v)) (literals c) ≡ false → named x c ≡ true → B x ≡ true
unfolding has literals named
named-literals B x [] h k = absurd (false≢true k)
named-literals B x (t ∷ c) h k =
    let a = or_parts (not (B (absolute t))) (has_any (λ s v. not (B v)) (literals c)) h in
    ⊎_elim (λ e. ap B (sym (eqb-true (absolute t) x e)) ∙ not-false (B (absolute t)) a.0) (λ e. named-literals B x c a.1 e)
    (or_cases (eqb (absolute t) x) (named x c) k)

named-clauses : (B : ℕ → Bool) (x : ℕ) (cs : List (List Token)) → has_any (λ s v. not (B v)) (clause_trees cs) ≡ false
    → named x (flatten cs) ≡ true → B x ≡ true
unfolding has clause_trees flatten named
named-clauses B x [] h k = absurd (false≢true k)
named-clauses B x (c ∷ cs) h k =
    let a = or_parts (has_any (λ s v. not (B v)) (literals c)) (has_any (λ s v. not (B v)) (clause_trees cs)) h in
    ⊎_elim (λ e. named-literals B x c a.0 e) (λ e. named-clauses B x cs a.1 e)
    (or_cases (named x c) (named x (flatten cs)) (sym (named-++ x c (flatten cs)) ∙ k))

free-none : (ls : List (List Token)) (n : ℕ) → ((x : ℕ) → is_free ls x ≡ false) → free_up_to n ls ≡ []
unfolding free_up_to
free-none ls zero f = refl
free-none ls (suc n) f = rw (f (suc n)) (append-nil (free_up_to n ls) ∙ free-none ls n f)

low_named : (n : ℕ) (l : List Token) → ((x : ℕ) → named x l ≡ true → x ≤ n) → all (λ t. leb (absolute t) n) l ≡ true
unfolding all named
low_named n [] f = refl
low_named n (t ∷ l) f =
    ap₂ ◌&&◌ (le-leb (absolute t) n (f (absolute t) (ap (λ (b : Bool). b || named (absolute t) l) (eq-eqb (absolute t) (absolute t) refl))))
    (low_named n l (λ x h. f x (or_later (eqb (absolute t) x) h)))

binds-highest : (p : Prefix) (v : ℕ) → binds p v ≡ true → v ≤ highest p
unfolding binds highest
binds-highest [] v h = absurd (false≢true h)
binds-highest (z ∷ p) v h =
    ⊎_elim (λ e. let r = eqb-true z.variable v e in omega arith) (λ e. let r = binds-highest p v e in omega arith)
    (or_cases (eqb z.variable v) (binds p v) h)

highest-numbered : (F : Format) (p : Prefix) → numbered F p ≡ true → highest p ≤ F.most_variables
unfolding highest
highest-numbered F [] h = omega arith
highest-numbered F (z ∷ p) h =
    let n = numbered-∷ F z p h in
    let r = highest-numbered F p n.1 in
    omega (arith, n.0)

-- a formula with such a matrix

module _ (F : Format) (p : Prefix) (ts : Forest) (w : Within F (record { prefix = p; matrix = node and ts }))
    (h : is_clause_set (node and ts) ≡ true) where
  abbrev f : Formula
  f = record { prefix = p; matrix = node and ts }

  abbrev cs : List (List Token)
  cs = map (map token) (clauses_words ts)

  abbrev ls : List (List Token)
  ls = map row_tokens p ++ cs

  abbrev text : Bytes
  text = printed f

  above_zero : (v : ℕ) → binds p v ≡ true → 1 ≤ v
  above_zero v k = binds_positive F p v w.is_numbered k

  none-unbound : has_any (λ s v. not (binds p v)) ts ≡ false
  unfolding closed has
  none-unbound = not-true (has_any (λ s v. not (binds p v)) ts) w.is_closed

  said-clauses : ClausesSaid p above_zero ts (clauses_words ts)
  unfolding is_clause_set
  said-clauses = clauses_said p above_zero ts (not-true _ h) none-unbound

  uncut : Every (Uncut is_end) ls
  uncut = every-++ (Uncut is_end) (map row_tokens p) cs (rows_uncut p above_zero) said-clauses.no_ends

  named-bound : (x : ℕ) → named x (flatten cs) ≡ true → binds p x ≡ true
  named-bound x k = named-clauses (binds p) x cs (ap (has_any (λ s v. not (binds p v))) said-clauses.their_trees ∙ none-unbound) k

  text_words : TextWords text (words (header_text (highest p) (length (clauses_words ts)))) (separated (flat_map list_text (map row_words p ++ clauses_words ts)))
  unfolding printed
  text_words =
      at_header (header_text (highest p) (length (clauses_words ts))) (header-line (highest p) (length (clauses_words ts)))
      (flat_map list_text (map row_words p ++ clauses_words ts)) (header_heads (highest p) (length (clauses_words ts)))

  abbrev head : Header
  head = record { well_formed = true; variable_count = highest p; clause_count = length (clauses_words ts) }

  head_read : text_header text ≡ head
  unfolding text_header
  head_read = ap header_of text_words.of_header ∙ header-printed (highest p) (length (clauses_words ts))

  body_read : tokens_below text ≡ joined ls
  unfolding tokens_below
  body_read =
      ap (map token)
      (text_words.below ∙
      lists-words (map row_words p ++ clauses_words ts)
      (every-++ (Every IsWord) (map row_words p) (clauses_words ts) (rows_are_words p) said-clauses.their_words)) ∙
      tokens_joined (map row_words p ++ clauses_words ts) ∙
      ap joined (map-append (map token) (map row_words p) (clauses_words ts) ∙ ap (λ (r : List (List Token)). r ++ cs) (tokens_rows p))

  lists_read : lists (tokens_below text) ≡ ls
  lists_read = ap lists body_read ∙ lists-joined ls uncut

  bound_read : bound (lists (tokens_below text)) ≡ p
  bound_read = ap bound lists_read ∙ bound-rows cs said-clauses.all_clauses p

  clauses_read : clauses (lists (tokens_below text)) ≡ cs
  clauses_read = ap clauses lists_read ∙ clauses-rows cs said-clauses.all_clauses p

  none_free : (x : ℕ) → is_free (lists (tokens_below text)) x ≡ false
  unfolding is_free
  none_free x =
      rw (clauses_read, bound_read) (by (named x (flatten cs)) refl)
    where
      by : (m : Bool) → named x (flatten cs) ≡ m → (m && not (binds p x)) ≡ false
      by true e = ap not (named-bound x e)
      by false e = refl

  -- reading gives the formula back
  formula_read : qdimacs text ≡ f
  unfolding qdimacs said matrix_of
  formula_read =
      ap₂ (λ (q : Prefix) (us : Forest). record { prefix = q; matrix = node and us })
      (ap₂ (λ (a b : Prefix). a ++ b) (free-none (lists (tokens_below text)) (text_header text).variable_count none_free) bound_read)
      (ap clause_trees clauses_read ∙ said-clauses.their_trees)

  well_read : well_listed (tokens_below text) ≡ true
  well_read = ap well_listed body_read ∙ well_listed-joined ls uncut (rows_in_order cs said-clauses.all_clauses p)

  below-highest : (x : ℕ) → named x (flat_map numbers_of (lists (tokens_below text))) ≡ true → x ≤ highest p
  below-highest x k =
      ⊎_elim (λ e. binds-highest p x (ap (λ (q : Prefix). binds q x) (sym bound_read) ∙ e))
      (λ e. binds-highest p x (named-bound x (ap (λ (c : List (List Token)). named x (flatten c)) (sym clauses_read) ∙ e)))
      (or_cases (binds (bound (lists (tokens_below text))) x) (named x (flatten (clauses (lists (tokens_below text)))))
      (sym (named-lists x (lists (tokens_below text))) ∙ k))

  counts_read : counts_fail (text_header text) (tokens_below text) ≡ false
  unfolding above_count
  counts_read =
      or-none
      (ap (λ (x : Header). above_count x.variable_count (lists (tokens_below text))) head_read ∙
      ap not (low_named (highest p) (flat_map numbers_of (lists (tokens_below text))) below-highest))
      (ap₂ (λ (c : List (List Token)) (x : Header). not (eqb (length c) x.clause_count)) clauses_read head_read ∙
      ap not (eq-eqb (length cs) (length (clauses_words ts)) (length-map (clauses_words ts) (map token))))

  printed_read_so : (out : Bytes) → length (sheet F f) ≤ length out → qdimacs_call F text out ≡ holds (sheet F f) out
  printed_read_so out l =
      accepts F text out (ap (header_fails F) head_read ∙ le-ltb F.most_variables (highest p) (highest-numbered F p w.is_numbered)) well_read
      counts_read (ap distinct bound_read ∙ w.is_distinct) (subst (λ (g : Formula). rows g.matrix ≤ F.most_nodes) (sym formula_read) w.few_nodes)
      (subst (λ (g : Formula). length (sheet F g) ≤ length out) (sym formula_read) l) ∙
      ap (λ (g : Formula). holds (sheet F g) out) formula_read

module _ (F : Format) where
  -- A printed formula says itself, and the call writes its sheet.
  pub printed-says : (f : Formula) → Within F f → is_clause_set f.matrix ≡ true → qdimacs (printed f) ≡ f
  unfolding is_clause_set
  printed-says f w h = by f.matrix w h
    where
      by : (t : Tree) → Within F (record { prefix = f.prefix; matrix = t }) → is_clause_set t ≡ true
          → qdimacs (printed (record { prefix = f.prefix; matrix = t })) ≡ record { prefix = f.prefix; matrix = t }
      by (lit s v) x k = absurd (false≢true k)
      by (node or ts) x k = absurd (false≢true k)
      by (node and ts) x k = formula_read F f.prefix ts x k

  pub printed_read : (f : Formula) (out : Bytes) → Within F f → is_clause_set f.matrix ≡ true → length (sheet F f) ≤ length out
      → qdimacs_call F (printed f) out ≡ holds (sheet F f) out
  unfolding is_clause_set
  printed_read f out w h l = by f.matrix w h l
    where
      by : (t : Tree) → Within F (record { prefix = f.prefix; matrix = t }) → is_clause_set t ≡ true
          → length (sheet F (record { prefix = f.prefix; matrix = t })) ≤ length out
          → qdimacs_call F (printed (record { prefix = f.prefix; matrix = t })) out ≡ holds (sheet F (record { prefix = f.prefix; matrix = t })) out
      by (lit s v) x k m = absurd (false≢true k)
      by (node or ts) x k m = absurd (false≢true k)
      by (node and ts) x k m = printed_read_so F f.prefix ts x k out m
