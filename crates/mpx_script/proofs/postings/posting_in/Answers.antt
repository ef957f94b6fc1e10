use Rattle.std.proofs.Common.{◌≡◌, ◌∙◌, [], pos, rules, sym}
use Rattle.std.specs.Prelude.{unwrap_or}
use Rattle.std.specs.Option.{option_copied}
use Rattle.mpx_num.specs.Text.{number_of}
use Rattle.mpx_script.specs.Places.{said}
use Rattle.mpx_script.specs.laws.Parts.{call_or_new_posted}
use Rattle.mpx_script.proofs.Accepted.{said_is}
use Rattle.mpx_script.proofs.postings.posting_in.Goals as goal

pub returns-clause-posting : goal.returns-clause-posting
returns-clause-posting g c =
    let tag : c.in-Some.tag ≡ said number_of (pos 0) c.args.new.now.tag = sym (said_is number_of (pos 0) c.args.new.now.tag c.in-Some.tag (search rules)) in
    let posted : c.in_ok-call_or_new_posted.field-0 ≡ call_or_new_posted c.args.kind c.args.mode (unwrap_or (option_copied c.args.communicator) []) c.in-Ok.draft c.in-Some.tag (unwrap_or c.args.call.now.name []) = search rules in
    posted ∙ λ i. call_or_new_posted c.args.kind c.args.mode (unwrap_or (option_copied c.args.communicator) []) (c.in-Ok.ensures.draft i) (tag i) (unwrap_or c.args.call.now.name [])
