use Rattle.std.proofs.Common.{◌≡◌, ℕ, ◌+◌, ◌*◌, ◌/◌, List, sym, subst, ◌∙◌, arith}
use Rattle.std.specs.Ordering.{nat_cmp}
use Rattle.join_core.specs.Max.{max_joining}
use Rattle.join_core.specs.declared.max.Max.{Max}
use Rattle.mpx_format.specs.Fields.{process, some_calls}
use Rattle.mpx_decode.specs.Raising.{RaisesRows, row}
use Rattle.mpx_decode.proofs.Fours.{number_of, rows_append}
use Rattle.mpx_decode.proofs.join_numbers.raise_fours.Goals as goal

pub loop-i-preserved : goal.loop-i-preserved
loop-i-preserved c =
    let i = c.loop-i.i in
    let old = c.args.entries.now.items in
    let more : 4 * i + 4 ≡ 4 * (i + 1) = omega arith in
    record {
      most = omega (arith, c.loop-i-test.true);
      joined = subst (λ (n : ℕ). RaisesRows nat_cmp number_of (row process some_calls) max_joining n c.args.bytes.now c.in-Some.after.now old c.raise_four.new.entries.items) more
          (rows_append nat_cmp number_of (row process some_calls) max_joining (4 * i) 4 c.args.bytes.now c.loop-i.rest.now c.in-Some.after.now old c.loop-i.entries.items c.raise_four.new.entries.items c.loop-i.invariant.joined c.in-Some.ensures.joined);
      rising = c.raise_four.ensures.rising;
      len = c.raise_four.ensures.len ∙ c.loop-i.invariant.len;
    }

pub returns-in-None-clause-joined : goal.returns-in-None-clause-joined
returns-in-None-clause-joined c =
    subst (λ (es : List (ℕ × Max)). RaisesRows nat_cmp number_of (row process some_calls) max_joining (4 * c.loop-i.i) c.args.bytes.now c.loop-i.rest.now c.args.entries.now.items es) (sym c.in-None.ensures.others) c.loop-i.invariant.joined

pub returns-clause-joined : goal.returns-clause-joined
returns-clause-joined c =
    let all : c.loop-i.i ≡ c.min-fours.result / 4 = omega (arith, c.loop-i-test.false, c.loop-i.invariant.most) in
    subst (λ (n : ℕ). RaisesRows nat_cmp number_of (row process some_calls) max_joining (4 * n) c.args.bytes.now c.loop-i.rest.now c.args.entries.now.items c.loop-i.entries.items) all c.loop-i.invariant.joined
