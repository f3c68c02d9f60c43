-- `tidy_rules::rules::judge_literal` meets its contract.
use Rattle.std.proofs.Common.{◌≡◌, sym, ap, ◌∙◌, ◌-◌, get_or, arith}
use Rattle.rows.specs.Layouts.{rows_in}
use Rattle.buckets.specs.Chains.{bucket, last}
use Rattle.buckets.specs.Halves.{row_of}
use Rattle.buckets.specs.Hashes.{literal_mix}
use Rattle.tidy_rules.specs.Walks.{at_row}
use Rattle.tidy_rules.specs.Rules.{Test, Found}
use Rattle.tidy_rules.proofs.Find.{found, unfound}
use Rattle.tidy_rules.proofs.Judge.{members-within, judged_inside, judged_room, judged_chain, judged-new, judged-again, judged-opposite}
use Rattle.tidy_rules.proofs.rules.judge_literal.Goals.{After-literal_hash-p, After-first-start, In-Some, After-row_of-r, After-kind_at}
use Rattle.tidy_rules.proofs.rules.judge_literal.Goals as goal

pub argument_at-x-requires : goal.argument_at-x-requires
argument_at-x-requires c = (c.requires.0.room, judged_inside c.requires.0)

hash_is : (c : After-literal_hash-p) → c.literal_hash-p.result ≡ literal_mix (4 - c.args.c.kind) c.argument_at-x.result
hash_is c = c.literal_hash-p.ensures.0 ∙ ap (λ s. literal_mix s c.argument_at-x.result) c.from.ensures

start_is : (c : After-first-start) → c.first-start.result ≡ last c.args.members.now (bucket c.literal_hash-p.result) c.args.c.before
start_is c = c.first-start.ensures ∙ ap (λ j. last c.args.members.now j c.args.c.before) c.bucket_of.ensures.0

pub find-requires : goal.find-requires
find-requires c = (c.requires.0.room, judged_chain c.requires.0 c.bucket_of.result c.first-start.ensures)

-- no member of its variable is found

pub member_of-requires : goal.member_of-requires
member_of-requires c = (omega (arith, judged_inside c.requires.0, c.requires.0.tables.countable), c.literal_hash-p.ensures.1)

pub add-requires : goal.add-requires
add-requires c = (judged_room c.requires.0, c.member_of.ensures.1, c.requires.0.behind.linked)

pub returns-in_default-clause-judges_as : goal.returns-in_default-clause-judges_as
returns-in_default-clause-judges_as c =
    λ o from before done after laid noted two front x back h _.
    let at = goal.at.returns-in_default-clause-judges_as c in
    let none = unfound (bucket c.literal_hash-p.result) c.find.ensures c.requires.0.behind.linked (start_is at.After-first-start) c.in_default.is in
    judged-new c.requires.1 c.argument_at-x.ensures.0 laid noted h o (hash_is at.After-literal_hash-p) none c.member_of.ensures.0 c.add.ensures.0
    (omega (arith, judged_room c.requires.0))

-- one is

found_there : (c : In-Some)
    → Found c.args.c.before (Test (rows_in c.args.s c.args.b.now) c.args.members.now c.argument_at-x.result) c.in-Some.i
found_there c =
    let start : c.first-start.result ≡ last c.args.members.now (bucket c.literal_hash-p.result) c.args.c.before =
    c.first-start.ensures ∙ ap (λ j. last c.args.members.now j c.args.c.before) c.bucket_of.ensures.0 in
    found (bucket c.literal_hash-p.result) c.find.ensures c.requires.0.behind.linked start c.in-Some.is

row_is : (c : After-row_of-r) → c.row_of-r.result ≡ row_of (get_or c.args.members.now c.in-Some.i 0)
row_is c = c.row_of-r.ensures ∙ ap row_of c.member.ensures.0

kind_is : (c : After-kind_at)
    → c.kind_at.result ≡ (at_row (rows_in c.args.s c.args.b.now) (row_of (get_or c.args.members.now c.in-Some.i 0))).kind
kind_is c =
    c.kind_at.ensures ∙ ap (λ p. (at_row (rows_in c.args.s c.args.b.now) p).kind) (c.row_of-r.ensures ∙ ap row_of c.member.ensures.0)

pub kind_at-requires : goal.kind_at-requires
kind_at-requires c =
    let at = goal.at.kind_at-requires c in
    let i = found_there at.In-Some in
    let behind = c.requires.0.behind in (
      c.requires.0.room,
      omega (arith, row_is at.After-row_of-r, judged_inside c.requires.0, members-within behind.laid behind.noted c.in-Some.i i.within),
    )

pub returns-then-kind_at-c-clause-judges_as : goal.returns-then-kind_at-c-clause-judges_as
returns-then-kind_at-c-clause-judges_as c =
    λ o from before done after laid noted two front x back h _.
    let at = goal.at.returns-then-kind_at-c-clause-judges_as c in
    let i = found_there at.In-Some in
    judged-opposite c.requires.1 c.argument_at-x.ensures.0 laid noted h o i.within i.passes
    (λ z. c.if-kind_at-c.true (kind_is at.After-kind_at ∙ z))

pub set_row-requires : goal.set_row-requires
set_row-requires c = (c.requires.0.room, judged_inside c.requires.0, omega (arith, judged_inside c.requires.0, c.requires.0.counted))

pub returns-clause-judges_as : goal.returns-clause-judges_as
returns-clause-judges_as c =
    λ o from before done after laid noted two front x back h _.
    let at = goal.at.returns-clause-judges_as c in
    let i = found_there at.In-Some in
    judged-again c.requires.1 c.argument_at-x.ensures.0 laid noted h o i.within i.passes
    (sym (kind_is at.After-kind_at) ∙ c.if-kind_at-c.false) c.set_row.ensures.b_after two
