-- `tidy_rules::rules::judge_operator` meets its contract.
use Rattle.std.proofs.Common.{◌≡◌, not, sym, ap, ◌∙◌, ◌<◌, List, set, arith}
use Rattle.sheet.specs.Format.{Row, row}
use Rattle.rows.specs.Layouts.{rows_in}
use Rattle.rows.proofs.Layouts.{length-rows_in}
use Rattle.buckets.specs.Chains.{bucket, last}
use Rattle.buckets.specs.Halves.{member_of, hash_of}
use Rattle.tidy_rules.specs.Segments.{Segment, none, ◌◂◌, head, live, Stands}
use Rattle.tidy_rules.proofs.Segments.{stands_row, stands_within}
use Rattle.tidy_rules.proofs.Hop.{One, live_one}
use Rattle.tidy_rules.proofs.Find.{found, unfound, some_found, none_found}
use Rattle.tidy_rules.proofs.Judge.{judged_inside, judged_room, judged_alive, judged_decided, said-hash, said-member, row-said, operator_size, operator_new, operator_again}
use Rattle.tidy_rules.proofs.rules.judge_operator.Goals.{Start, After-member_of-m, After-first-start}
use Rattle.tidy_rules.proofs.rules.judge_operator.Goals as goal

above : (c : Start) {front back : List Row} (x : Segment) → Stands (rows_in c.args.s c.args.b.now) c.args.c.at front x back → 4 < (head x).kind
above c x h = omega (arith, c.requires.1, ap (λ (q : Row). q.kind) (stands_row h))

one : (c : Start) {front back : List Row} (x : Segment) → Stands (rows_in c.args.s c.args.b.now) c.args.c.at front x back → One (live (x ◂ none))
one c x h = live_one x (λ z. omega (arith, above c x h))

pub decides_at-requires : goal.decides_at-requires
decides_at-requires c = (c.requires.0.room, judged_inside c.requires.0, c.requires.1)

pub returns-then-decides_at-clause-judges : goal.returns-then-decides_at-clause-judges
returns-then-decides_at-clause-judges c =
    λ o e from before done after laid noted two front x back h w.
    judged_decided h (sym (c.decides_at.ensures (live done) front x back h w o e) ∙ c.if-decides_at.true)

pub member_of-m-requires : goal.member_of-m-requires
member_of-m-requires c = (omega (arith, judged_inside c.requires.0, c.requires.0.tables.countable), c.hash_of.ensures.1)

-- the member that it would be
member_is : (c : After-member_of-m) → c.member_of-m.result ≡ member_of c.args.c.at (hash_of c.args.c.known)
member_is c = c.member_of-m.ensures.0 ∙ ap (member_of c.args.c.at) c.hash_of.ensures.0

start_is : (c : After-first-start) → c.first-start.result ≡ last c.args.members.now (bucket c.member_of-m.result) c.args.c.before
start_is c = c.first-start.ensures ∙ ap (λ j. last c.args.members.now j c.args.c.before) c.bucket_of.ensures.0

pub find_duplicate-requires : goal.find_duplicate-requires
find_duplicate-requires c =
    let at = goal.at.find_duplicate-requires c in
    let behind = c.requires.0.behind in
    let g = behind.standing in
    let u = one at.Start g.segment g.stands in (
      c.requires.0.room,
      judged_alive c.requires.0 c.bucket_of.result c.first-start.ensures,
      said-member c.args.c.known g.segment u.tree (member_is at.After-member_of-m) g.stands (above at.Start g.segment g.stands) behind.says u.is,
    )

-- none is the same

pub add-requires : goal.add-requires
add-requires c = (judged_room c.requires.0, c.member_of-m.ensures.1, c.requires.0.behind.linked)

pub returns-then-is_none-clause-judges : goal.returns-then-is_none-clause-judges
returns-then-is_none-clause-judges c =
    λ o e from before done after laid noted two front x back h w.
    let at = goal.at.returns-then-is_none-clause-judges c in
    let u = one at.Start x h in
    let l = above at.Start x h in
    let is = member_is at.After-member_of-m in
    let duplicates = c.find_duplicate.ensures (said-member c.args.c.known x u.tree is h l w u.is) in
    let none = unfound (bucket c.member_of-m.result) duplicates c.requires.0.behind.linked (start_is at.After-first-start)
    (none_found _ (c.is_none.ensures ∙ ap not c.if-is_none.true)) in
    operator_new laid noted h u.is o (sym (c.decides_at.ensures (live done) front x back h w o e) ∙ c.if-decides_at.false)
    (is ∙ ap (member_of c.args.c.at) (said-hash c.args.c.known x l w u.is)) none c.add.ensures.0 (omega (arith, judged_room c.requires.0))

-- one is

pub argument_at-rows-requires : goal.argument_at-rows-requires
argument_at-rows-requires c = (c.requires.0.room, judged_inside c.requires.0)

pub set_row-requires : goal.set_row-requires
set_row-requires c =
    let at = goal.at.set_row-requires c in
    let g = c.requires.0.behind.standing in
    let r = stands_row g.stands in
    let size = operator_size g.segment (above at.Start g.segment g.stands) in
    let rows = length-rows_in c.args.b.now c.requires.0.room in (
      c.requires.0.room,
      judged_inside c.requires.0,
      omega (arith, c.argument_at-rows.ensures.0, ap (λ (q : Row). q.argument) r, size, stands_within g.stands, rows, c.requires.0.counted),
    )

pub returns-clause-judges : goal.returns-clause-judges
returns-clause-judges c =
    λ o k from before done after laid noted two front x back h says.
    let at = goal.at.returns-clause-judges c in
    let u = one at.Start x h in
    let l = above at.Start x h in
    let is = member_is at.After-member_of-m in
    let duplicates = c.find_duplicate.ensures (said-member c.args.c.known x u.tree is h l says u.is) in
    let told = some_found c.find_duplicate.result (c.is_none.ensures ∙ ap not c.if-is_none.false) in
    let i = found (bucket c.member_of-m.result) duplicates c.requires.0.behind.linked (start_is at.After-first-start) told.1 in
    let undecided = sym (c.decides_at.ensures (live done) front x back h says o k) ∙ c.if-decides_at.false in
    let rows = c.argument_at-rows.ensures.0 ∙ ap (λ (q : Row). q.argument) (stands_row h) ∙ operator_size x l in
    operator_again laid noted h u.is o undecided i.within (row-said c.args.c.known is) i.passes
    (c.set_row.ensures.b_after ∙ ap (λ m. set (rows_in c.args.s c.args.b.now) c.args.c.at (row 0 m)) rows)
