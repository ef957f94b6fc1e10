-- Refused by what was read of the counts.
use Rattle.std.proofs.Common.{rules, ◌≡◌, ◌∙◌, [], Some, sym}
use Rattle.std.specs.Prelude.{is_none}
use Rattle.mpx_script.specs.Fields.{counts_named}
use Rattle.mpx_script.specs.Sentences.{faulty_counts, read_at}
use Rattle.mpx_script.proofs.Counts.{same_fault}
use Rattle.mpx_script.proofs.calls.counts_in.Goals as goal

pub returns-in-Some-clause-refused : goal.returns-in-Some-clause-refused
returns-in-Some-clause-refused c =
    let sent : c.in_ok-scounts.scounts ≡ read_at (counts_named c.args.fields.scounts) [] c.args.call.now.scounts = search rules in
    let received : c.in_ok-rcounts.rcounts ≡ read_at (counts_named c.args.fields.rcounts) [] c.args.call.now.rcounts = search rules in
    let told : faulty_counts c.args.fields (is_none c.in_ok-scounts.scounts) (is_none c.in_ok-rcounts.rcounts) ≡ Some c.in-Some.fault = search rules in
    sym (same_fault c.args.fields c.args.call.now c.in_ok-scounts.scounts c.in_ok-rcounts.rcounts sent received) ∙ told
