use Rattle.std.proofs.Common.{◌+◌, ◌-◌, ◌/◌, ◌%◌}
use Rattle.lake_bytes.specs.Varint.{groups_of}
use Rattle.lake_bytes.proofs.Groups.{last_group, goes_on, regroup}
use Rattle.lake_bytes.proofs.varint.+push_groups.Goals as goal

pub returns-then-number-lt128-clause-ok : goal.returns-then-number-lt128-clause-ok
returns-then-number-lt128-clause-ok t c = λ most some fits.
    rw (last_group most c.args.number some c.if-number-lt128.true) c.in_ok-push.ensures.items

pub returns-clause-ok : goal.returns-clause-ok
returns-clause-ok t c = λ most some fits.
    let on = goes_on most c.args.number c.if-number-lt128.false fits in
    let called = c.push_groups.ensures.ok (most - 1) on.some on.fits in
    regroup c.push_groups.result c.push_groups.new.out.items c.args.out.now.items (128 + c.args.number % 128) (groups_of (most - 1) (c.args.number / 128)) (groups_of most c.args.number) on.groups
    (rw c.in_ok-push-2.ensures.items at called)
