-- Lists that a 0 ends, word for word.
-- Assumes nothing.
use mathlib.Core.Path.{◌≡◌, refl, sym, ap, ap₂, ◌∙◌}
use mathlib.Core.Bool.{Bool, true, false, not, ◌&&◌, and_assoc, and-false}
use mathlib.Core.List.{List, [], ◌∷◌}
use Prim.Native.Nat.{zero, suc}
use lib.Dec.{eqb-suc-zero}
use Rattle.formula.specs.Tree.{Quantifier}
use Rattle.sheet.specs.Qdimacs.{onto_first, split, is_nil, all, Token, opener, plain, minus, other, is_plain, is_whole, is_end}
use Rattle.sheet.specs.Qdimacs.{is_opener, pieces, ended_lists, open_list, is_quantified, are_clauses, in_order, well_listed}
use Rattle.sheet.specs.Texts.{lists}
use Rattle.sheet.proofs.Qdimacs.Lists.{cut, split_separator, split_within}
use Rattle.qdimacs.specs.Inner.Lists.{State, between, within, ordered, clause_tokens, whole_lists}

abbrev pub open_part : List Token → List Token
open_part ts = open_list (pieces ts)

-- a 0 ends a list

pub lists_end : (ts : List Token) → lists (plain 0 ∷ ts) ≡ [] ∷ lists ts
unfolding pieces ended_lists
lists_end ts =
    let c = cut is_end ts in
    ap ended_lists (split_separator is_end (plain 0) ts refl ∙ ap (λ (ps : List (List Token)). [] ∷ ps) c.cut_so) ∙
    ap (λ (ps : List (List Token)). [] ∷ ended_lists ps) (sym c.cut_so)

open_end : (ts : List Token) → open_part (plain 0 ∷ ts) ≡ open_part ts
unfolding pieces open_list
open_end ts =
    let c = cut is_end ts in
    ap open_list (split_separator is_end (plain 0) ts refl ∙ ap (λ (ps : List (List Token)). [] ∷ ps) c.cut_so) ∙ ap open_list (sym c.cut_so)

-- any other word goes onto the first list, where one is ended
unfoldable pub onto : Token → List (List Token) → List (List Token)
onto t [] = []
onto t (l ∷ ls) = (t ∷ l) ∷ ls

pub lists_more : (t : Token) (ts : List Token) → is_end t ≡ false → lists (t ∷ ts) ≡ onto t (lists ts)
unfolding pieces ended_lists onto_first onto
lists_more t ts e = let c = cut is_end ts in ap ended_lists (split_within is_end t ts e) ∙ rw c.cut_so (by c.first c.others)
  where
    by : (p : List Token) (ps : List (List Token)) → ended_lists ((t ∷ p) ∷ ps) ≡ onto t (ended_lists (p ∷ ps))
    by p [] = refl
    by p (q ∷ ps) = refl

open_more : (t : Token) (ts : List Token) → is_end t ≡ false → is_nil (open_part (t ∷ ts)) ≡ (not (is_nil (lists ts)) && is_nil (open_part ts))
unfolding pieces ended_lists open_list onto_first is_nil
open_more t ts e =
    let c = cut is_end ts in
    ap (λ (ps : List (List Token)). is_nil (open_list ps)) (split_within is_end t ts e) ∙ rw c.cut_so (by c.first c.others)
  where
    by : (p : List Token) (ps : List (List Token))
        → is_nil (open_list ((t ∷ p) ∷ ps)) ≡ (not (is_nil (ended_lists (p ∷ ps))) && is_nil (open_list (p ∷ ps)))
    by p [] = refl
    by p (q ∷ ps) = refl

-- clauses

unfoldable pub listed-clauses : List (List Token) → Bool → Bool
listed-clauses ls o = are_clauses ls && o

-- with the rest of an open one in front
unfoldable pub open_clauses : List (List Token) → Bool → Bool
open_clauses [] o = false
open_clauses (l ∷ ls) o = all is_whole l && listed-clauses ls o

unfoldable pub clauses_by : Bool → List (List Token) → Bool → Bool
clauses_by false ls o = listed-clauses ls o
clauses_by true ls o = open_clauses ls o

by_definition : (ls : List (List Token)) (o : Bool) → (are_clauses ls && o) ≡ clauses_by false ls o
unfolding clauses_by listed-clauses
by_definition ls o = refl

onto_clauses : (p : Bool) (t : Token) (ls : List (List Token)) (o : Bool) → clauses_by p (onto t ls) (not (is_nil ls) && o) ≡ (is_whole t && open_clauses ls o)
unfolding clauses_by listed-clauses open_clauses are_clauses all is_nil onto
onto_clauses false t [] o = sym (and-false (is_whole t))
onto_clauses true t [] o = sym (and-false (is_whole t))
onto_clauses false t (l ∷ ls) o = and_assoc (is_whole t && all is_whole l) (all (λ k. all is_whole k) ls) o ∙ and_assoc (is_whole t) (all is_whole l) (all (λ k. all is_whole k) ls && o)
onto_clauses true t (l ∷ ls) o = and_assoc (is_whole t) (all is_whole l) (all (λ k. all is_whole k) ls && o)

more_clauses : (p : Bool) (t : Token) (ts : List Token) → is_end t ≡ false
    → clauses_by p (lists (t ∷ ts)) (is_nil (open_part (t ∷ ts))) ≡ (is_whole t && open_clauses (lists ts) (is_nil (open_part ts)))
more_clauses p t ts e = ap₂ (clauses_by p) (lists_more t ts e) (open_more t ts e) ∙ onto_clauses p t (lists ts) (is_nil (open_part ts))

ended_clauses : (p : Bool) (ts : List Token)
    → clauses_by p (lists (plain 0 ∷ ts)) (is_nil (open_part (plain 0 ∷ ts))) ≡ listed-clauses (lists ts) (is_nil (open_part ts))
unfolding clauses_by listed-clauses open_clauses are_clauses all
ended_clauses p ts = ap₂ (λ ls (l : List Token). clauses_by p ls (is_nil l)) (lists_end ts) (open_end ts) ∙ by p
  where
    by : (p : Bool) → clauses_by p ([] ∷ lists ts) (is_nil (open_part ts)) ≡ listed-clauses (lists ts) (is_nil (open_part ts))
    by false = refl
    by true = refl

pub whole : (p : Bool) (ts : List Token) → clauses_by p (lists ts) (is_nil (open_part ts)) ≡ whole_lists p ts
unfolding clauses_by listed-clauses open_clauses whole_lists are_clauses all pieces ended_lists open_list is_nil split
whole false [] = refl
whole true [] = refl
whole p (plain zero ∷ ts) = ended_clauses p ts ∙ whole false ts
whole p (plain (suc n) ∷ ts) = more_clauses p (plain (suc n)) ts (eqb-suc-zero n) ∙ whole true ts
whole p (minus n ∷ ts) = more_clauses p (minus n) ts refl ∙ whole true ts
whole p (opener q ∷ ts) = more_clauses p (opener q) ts refl
whole p (other ∷ ts) = more_clauses p other ts refl

-- quantifier lines, then clauses

unfoldable pub in_line : List (List Token) → Bool → Bool
in_line [] o = false
in_line (l ∷ ls) o = all is_plain l && (in_order ls && o)

unfoldable pub order_by : State → List (List Token) → Bool → Bool
order_by between ls o = in_order ls && o
order_by (within q) ls o = in_line ls o

-- a list that no opener opens is the first clause
onto_order : (t : Token) (ls : List (List Token)) → is_opener t ≡ false → in_order (onto t ls) ≡ are_clauses (onto t ls)
unfolding in_order are_clauses all onto is_quantified
onto_order t [] e = refl
onto_order t (l ∷ ls) e = rw e

more_order : (t : Token) (ts : List Token) → is_end t ≡ false → is_opener t ≡ false → in_order (lists (t ∷ ts)) ≡ are_clauses (lists (t ∷ ts))
more_order t ts e f = ap in_order (lists_more t ts e) ∙ onto_order t (lists ts) f ∙ ap are_clauses (sym (lists_more t ts e))

end_order : (ts : List Token) → in_order (lists (plain 0 ∷ ts)) ≡ are_clauses (lists (plain 0 ∷ ts))
unfolding in_order is_quantified
end_order ts = ap in_order (lists_end ts) ∙ ap are_clauses (sym (lists_end ts))

first_clause : (ts : List Token) → in_order (lists ts) ≡ are_clauses (lists ts)
    → order_by between (lists ts) (is_nil (open_part ts)) ≡ whole_lists false ts
unfolding order_by
first_clause ts e = ap (λ b. b && is_nil (open_part ts)) e ∙ clauses_are ∙ whole false ts
  where
    clauses_are : (are_clauses (lists ts) && is_nil (open_part ts)) ≡ clauses_by false (lists ts) (is_nil (open_part ts))
    clauses_are = by_definition (lists ts) (is_nil (open_part ts))

onto_opener : (q : Quantifier) (ls : List (List Token)) (o : Bool) → order_by between (onto (opener q) ls) (not (is_nil ls) && o) ≡ in_line ls o
unfolding order_by in_line onto in_order is_quantified is_nil
onto_opener q [] o = refl
onto_opener q (l ∷ ls) o = and_assoc (all is_plain l) (in_order ls) o

onto_line : (t : Token) (ls : List (List Token)) (o : Bool) → in_line (onto t ls) (not (is_nil ls) && o) ≡ (is_plain t && in_line ls o)
unfolding in_line onto all is_nil
onto_line t [] o = sym (and-false (is_plain t))
onto_line t (l ∷ ls) o = and_assoc (is_plain t) (all is_plain l) (in_order ls && o)

more_line : (q : Quantifier) (t : Token) (ts : List Token) → is_end t ≡ false
    → order_by (within q) (lists (t ∷ ts)) (is_nil (open_part (t ∷ ts))) ≡ (is_plain t && in_line (lists ts) (is_nil (open_part ts)))
unfolding order_by
more_line q t ts e = ap₂ in_line (lists_more t ts e) (open_more t ts e) ∙ onto_line t (lists ts) (is_nil (open_part ts))

ended_line : (q : Quantifier) (ts : List Token)
    → order_by (within q) (lists (plain 0 ∷ ts)) (is_nil (open_part (plain 0 ∷ ts))) ≡ order_by between (lists ts) (is_nil (open_part ts))
unfolding order_by in_line all
ended_line q ts = ap₂ (λ ls (l : List Token). in_line ls (is_nil l)) (lists_end ts) (open_end ts)

opened-line : (q : Quantifier) (ts : List Token)
    → order_by between (lists (opener q ∷ ts)) (is_nil (open_part (opener q ∷ ts))) ≡ order_by (within q) (lists ts) (is_nil (open_part ts))
unfolding order_by
opened-line q ts =
    ap₂ (order_by between) (lists_more (opener q) ts refl) (open_more (opener q) ts refl) ∙ onto_opener q (lists ts) (is_nil (open_part ts))

pub listed : (s : State) (ts : List Token)
    → order_by s (lists ts) (is_nil (open_part ts)) ≡ (ordered s ts && whole_lists false (clause_tokens s ts))
unfolding order_by in_line ordered clause_tokens whole_lists pieces ended_lists open_list is_nil split in_order
listed between [] = refl
listed (within q) [] = refl
listed between (opener q ∷ ts) = opened-line q ts ∙ listed (within q) ts
listed between (plain zero ∷ ts) = first_clause (plain 0 ∷ ts) (end_order ts)
listed between (plain (suc n) ∷ ts) = first_clause (plain (suc n) ∷ ts) (more_order (plain (suc n)) ts (eqb-suc-zero n) refl)
listed between (minus n ∷ ts) = first_clause (minus n ∷ ts) (more_order (minus n) ts refl refl)
listed between (other ∷ ts) = first_clause (other ∷ ts) (more_order other ts refl refl)
listed (within q) (opener r ∷ ts) = more_line q (opener r) ts refl
listed (within q) (plain zero ∷ ts) = ended_line q ts ∙ listed between ts
listed (within q) (plain (suc n) ∷ ts) = more_line q (plain (suc n)) ts (eqb-suc-zero n) ∙ listed (within q) ts
listed (within q) (minus n ∷ ts) = more_line q (minus n) ts refl
listed (within q) (other ∷ ts) = more_line q other ts refl

pub well_listed_is : (ts : List Token) → well_listed ts ≡ (ordered between ts && whole_lists false (clause_tokens between ts))
unfolding well_listed order_by
well_listed_is ts = listed between ts
