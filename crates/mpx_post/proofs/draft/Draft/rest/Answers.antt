use Rattle.std.proofs.Common.{FitsSigned, rules, ◌≡◌, true, false, refl}
use mir.Syntax.{w128}
use Rattle.std.proofs.lemmas.Int.{to_z-of_z}
use Rattle.mpx_post.specs.Drafts.{graph_of, making_of, naturals, received_counts, sent_counts}
use Rattle.mpx_kind.specs.Kinds.{fields_of, kind_of}
use Rattle.mpx_post.proofs.Checks.{colour_is_fine, counted, edges_are_few, edges_are_fine, group_is_fine, key_is_fine}
use Rattle.mpx_post.proofs.draft.Draft.rest.Goals as goal

pub returns-then-not-are_counts-clause-err : goal.returns-then-not-are_counts-clause-err
returns-then-not-are_counts-clause-err c =
    let counts : counted c.args.self.now ≡ false = rw (c.are_counts.ensures, c.are_counts-2.ensures, c.sent_counts-sent.ensures, c.received_counts-received.ensures) at c.if-not-are_counts.true in
    rw counts refl

pub returns-in-Some-clause-err : goal.returns-in-Some-clause-err
returns-in-Some-clause-err c =
    let counts : counted c.args.self.now ≡ true = rw (c.are_counts.ensures, c.are_counts-2.ensures, c.sent_counts-sent.ensures, c.received_counts-received.ensures) at c.if-not-are_counts.false in
    rw (counts, c.in-Some.is) refl

pub given_making-requires-clause-group : goal.given_making-requires-clause-group
given_making-requires-clause-group c =
    let fine = group_is_fine (fields_of (kind_of c.args.self.now.call)).makes c.args.self.now (c.requires.making c.in_default.is) in
    rw (c.requires.fields, c.as_slice-group.ensures) fine

pub given_making-requires-clause-colour : goal.given_making-requires-clause-colour
given_making-requires-clause-colour c =
    let fine = colour_is_fine (fields_of (kind_of c.args.self.now.call)).makes c.args.self.now (c.requires.making c.in_default.is) in
    rw c.requires.fields fine

pub given_making-requires-clause-key : goal.given_making-requires-clause-key
given_making-requires-clause-key c =
    let fine = key_is_fine (fields_of (kind_of c.args.self.now.call)).makes c.args.self.now (c.requires.making c.in_default.is) in
    let fits : FitsSigned w128 c.args.self.now.key = search rules in
    rw (c.requires.fields, to_z-of_z w128 c.args.self.now.key fits) fine

pub given_making-requires-clause-edges : goal.given_making-requires-clause-edges
given_making-requires-clause-edges c =
    let fine = edges_are_fine (fields_of (kind_of c.args.self.now.call)).makes c.args.self.now (c.requires.making c.in_default.is) in
    rw c.requires.fields fine

pub given_making-requires-clause-few : goal.given_making-requires-clause-few
given_making-requires-clause-few c =
    let fine = edges_are_few (fields_of (kind_of c.args.self.now.call)).makes c.args.self.now (c.requires.making c.in_default.is) in
    rw c.requires.fields fine

pub given_counts-requires-clause-few_sent : goal.given_counts-requires-clause-few_sent
given_counts-requires-clause-few_sent c = rw c.sent_counts-sent.ensures c.requires.sent

pub given_counts-requires-clause-few_received : goal.given_counts-requires-clause-few_received
given_counts-requires-clause-few_received c = rw c.received_counts-received.ensures c.requires.received

pub returns-in-Err-clause-err : goal.returns-in-Err-clause-err
returns-in-Err-clause-err c =
    let counts : counted c.args.self.now ≡ true = rw (c.are_counts.ensures, c.are_counts-2.ensures, c.sent_counts-sent.ensures, c.received_counts-received.ensures) at c.if-not-are_counts.false in
    rw (counts, c.in_default.is) refl

pub returns-in-Ok-given_counts-clause-ok : goal.returns-in-Ok-given_counts-clause-ok
returns-in-Ok-given_counts-clause-ok c =
    let draft = c.args.self.now in
    let key : FitsSigned w128 draft.key = search rules in
    let making : c.in-Ok.making ≡ making_of (fields_of (kind_of draft.call)).makes draft.colour draft.key draft.group (graph_of draft) = simp to_z-of_z at (rw (c.requires.fields, c.as_slice-group.ensures) at c.in-Ok.ensures) in
    let sent : c.in-Ok-given_counts.scounts ≡ naturals (sent_counts draft) = rw c.sent_counts-sent.ensures at c.in-Ok-given_counts.ensures.0 in
    let received : c.in-Ok-given_counts.rcounts ≡ naturals (received_counts draft) = rw c.received_counts-received.ensures at c.in-Ok-given_counts.ensures.1 in
    let counts : counted draft ≡ true = rw (c.are_counts.ensures, c.are_counts-2.ensures, c.sent_counts-sent.ensures, c.received_counts-received.ensures) at c.if-not-are_counts.false in
    (counts, c.in_default.is, sent, received, making)
