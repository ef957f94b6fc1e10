use mir.Syntax.{w128}
use Rattle.std.proofs.Common.{◌≡◌, [], None, pos, sym, ◌∙◌, rules, subst}
use Rattle.std.proofs.lemmas.Int.{to_z-of_z}
use Rattle.std.specs.List.{filter_map}
use Rattle.mpx_num.specs.Text.{number_of}
use Rattle.mpx_kind.specs.Kinds.{fields_of}
use Rattle.mpx_script.specs.Fields.{counts_named}
use Rattle.mpx_script.specs.Places.{said}
use Rattle.mpx_script.specs.Sentences.{IsLineRefusal, counts_refusal}
use Rattle.mpx_script.proofs.Accepted.{refusal_of_counts, said_is}
use Rattle.mpx_script.proofs.calls.call_draft_in.Goals as goal

pub returns-in-Err-clause-refused : goal.returns-in-Err-clause-refused
returns-in-Err-clause-refused g c =
    let refused : IsLineRefusal (counts_refusal (fields_of c.args.kind) c.args.call.now) c.in-Err.e = search rules in
    subst (λ found. IsLineRefusal found c.in-Err.e) (sym (refusal_of_counts c.args.kind c.args.call.now c.in-Some.root (search rules) (search rules))) refused

pub returns-clause-accepted : goal.returns-clause-accepted
returns-clause-accepted g c =
    let accepted : counts_refusal (fields_of c.args.kind) c.args.call.now ≡ None = search rules in
    refusal_of_counts c.args.kind c.args.call.now c.in-Some.root (search rules) (search rules) ∙ accepted

pub returns-clause-draft : goal.returns-clause-draft
returns-clause-draft g c =
    let root : said number_of (pos 0) c.args.call.now.root ≡ c.in-Some.root = said_is number_of (pos 0) c.args.call.now.root c.in-Some.root (search rules) in
    let sent : said (counts_named (fields_of c.args.kind).scounts) [] c.args.call.now.scounts ≡ c.in-Ok.counts.0 = said_is (counts_named (fields_of c.args.kind).scounts) [] c.args.call.now.scounts c.in-Ok.counts.0 (search rules) in
    let received : said (counts_named (fields_of c.args.kind).rcounts) [] c.args.call.now.rcounts ≡ c.in-Ok.counts.1 = said_is (counts_named (fields_of c.args.kind).rcounts) [] c.args.call.now.rcounts c.in-Ok.counts.1 (search rules) in
    let items : filter_map number_of c.args.call.now.items ≡ c.in-Some-2.items = search rules in
    let draft = rw (to_z-of_z w128 c.in-Some.root (search rules)) at c.plain_draft.ensures in
    rw (root, sent, received, items) draft
