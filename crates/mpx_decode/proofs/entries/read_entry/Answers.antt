use Rattle.std.proofs.Common.{refl, rules, ◌≡◌, true}
use Rattle.std.proofs.lemmas.Result.{err_from_is_err_and}
use Rattle.mpx_format.specs.Rising.{may_come, last_of}
use Rattle.mpx_format.proofs.Rows.{may_come_seen}
use Rattle.mpx_decode.proofs.Loop.{fails_on}
use Rattle.mpx_decode.proofs.entries.read_entry.Goals as goal

pub returns-then-not-may_come-clause-read : goal.returns-then-not-may_come-clause-read
returns-then-not-may_come-clause-read g c =
    let no = may_come_seen g.K.Ord.cmp c.args.least.now g.J.WireValue.seen c.args.before.now c.in_ok-key.key in
    rw (c.in_ok-key.ensures.gives, no) (search rules)

pub returns-in_err-value-clause-read : goal.returns-in_err-value-clause-read
returns-in_err-value-clause-read g c =
    let yes = may_come_seen g.K.Ord.cmp c.args.least.now g.J.WireValue.seen c.args.before.now c.in_ok-key.key in
    let p = err_from_is_err_and c.from_residual-in_err-value.result c.from_residual-in_err-value.ensures.1 in
    let test : may_come g.K.Ord.cmp c.args.least.now (last_of c.args.before.now) c.in_ok-key.key ≡ true = search rules in
    rw (c.in_ok-key.ensures.gives, yes, test, p.1, p.2) (fails_on c.in_err-value.field-0.0 _ _ (fails_on c.in_err-value.field-0.0 _ _ c.in_err-value.ensures))

pub returns-then-not-says_something-clause-read : goal.returns-then-not-says_something-clause-read
returns-then-not-says_something-clause-read g c =
    let yes = may_come_seen g.K.Ord.cmp c.args.least.now g.J.WireValue.seen c.args.before.now c.in_ok-key.key in
    let test : may_come g.K.Ord.cmp c.args.least.now (last_of c.args.before.now) c.in_ok-key.key ≡ true = search rules in
    rw (c.in_ok-key.ensures.gives, yes, test, c.in_ok-value.ensures) (search rules)

pub returns-clause-read : goal.returns-clause-read
returns-clause-read g c =
    let yes = may_come_seen g.K.Ord.cmp c.args.least.now g.J.WireValue.seen c.args.before.now c.in_ok-key.key in
    let test : may_come g.K.Ord.cmp c.args.least.now (last_of c.args.before.now) c.in_ok-key.key ≡ true = search rules in
    let told : g.J.WireValue.says (g.J.WireValue.seen c.in_ok-value.value) ≡ true = search rules in
    rw (c.in_ok-key.ensures.gives, yes, test, c.in_ok-value.ensures, told) refl
