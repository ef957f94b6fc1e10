use Rattle.std.proofs.Common.{◌≡◌, ◌∙◌, ◌<◌, ◌++◌, ◌∷◌, [], true, false, refl, sym, arith, rules, length-append}
use Rattle.std.proofs.lemmas.List.Elements.{All-nil, All-push}
use Rattle.std.proofs.lemmas.Result.{err_from_is_err_and}
use Rattle.mpx_group.specs.Group.{has}
use Rattle.mpx_post.proofs.Seen.{seen-none, seen-more}
use Rattle.mpx_format.specs.declared.defects.ReadError.TheVariants as errors
use Rattle.mpx_format.specs.Format.{out_of_limits}
use Rattle.mpx_format.specs.Fields.{member}
use Rattle.mpx_decode.proofs.Loop.{begins, goes_on, ends, is_done, fails_on}
use Rattle.mpx_decode.proofs.names.read_distinct.Goals as goal

pub loop-init : goal.loop-init
loop-init c = rw c.in_ok-members.ensures.items (record { read = begins member c.args.count c.args.bytes.now; seen = seen-none; below = All-nil _; len = refl })

pub returns-in_err-number-clause-read : goal.returns-in_err-number-clause-read
unfolding member
returns-in_err-number-clause-read c =
    let p = err_from_is_err_and c.from_residual-in_err-number.result c.from_residual-in_err-number.ensures.1 in
    let e = c.in_err-number.field-0.0 in
    rw (p.1, p.2) (ends member c.loop.members.items c.args.count c.loop.counter c.loop.rest.now c.args.bytes.now e c.loop-test.true (fails_on e _ _ c.in_err-number.ensures.read) c.loop.invariant.read)

pub returns-then-read-number-clause-read : goal.returns-then-read-number-clause-read
unfolding member
returns-then-read-number-clause-read c =
    let twice : has c.loop.members.items c.in_ok-number.number ≡ true = sym (c.loop.invariant.seen.marked c.in_ok-number.number c.in_ok-number.ensures.small) ∙ c.if-read-number.true in
    rw c.out_of_limits.ensures (ends member c.loop.members.items c.args.count c.loop.counter c.loop.rest.now c.args.bytes.now (errors.Defect (out_of_limits c.loop.rest.now)) c.loop-test.true (rw (c.in_ok-number.ensures.read, twice) refl) c.loop.invariant.read)

pub loop-preserved : goal.loop-preserved
unfolding member
loop-preserved c =
    let n = c.in_ok-number.number in
    let items = c.loop.members.items in
    let small = c.in_ok-number.ensures.small in
    let e : c.push.new.self.items ≡ items ++ n ∷ [] = search rules in
    let fresh : has items n ≡ false = sym (c.loop.invariant.seen.marked n small) ∙ c.if-read-number.false in
    record {
      read = rw e (goes_on member items c.args.count c.loop.counter c.loop.rest.now c.args.bytes.now n c.in_ok-number.after.now c.loop-test.true (rw (c.in_ok-number.ensures.read, fresh) refl) c.loop.invariant.read);
      seen = rw e (seen-more c.loop.read items n c.loop.invariant.seen small c.if-read-number.false);
      below = rw e (All-push (λ p. p < 64) items n c.loop.invariant.below small);
      len = rw e (omega (arith, c.loop.invariant.len, length-append items (n ∷ [])));
    }

pub returns-clause-read : goal.returns-clause-read
returns-clause-read c =
    is_done member c.loop.members.items c.args.count c.loop.counter c.loop.rest.now c.args.bytes.now c.loop-test.false c.loop.invariant.read
