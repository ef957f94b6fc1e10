use Rattle.std.proofs.Common.{◌≡◌, List, map, ap, sym, ◌∙◌, subst, refl, Some, None}
use Rattle.std.specs.Prelude.{Ok, Err}
use Rattle.std.specs.Option.{option_copied, option_map}
use Rattle.mpx_num.specs.declared.own.Operation.{Operation}
use Rattle.mpx_num.specs.Own.{operation_of}
use Rattle.mpx_statement.specs.Statements.{communicator_word, started_as}
use Rattle.mpx_meaning.specs.Standing.{looked_up}
use Rattle.mpx_meaning.proofs.Standing.{binds_seen}
use Rattle.mpx_rank.specs.Moves.{Move, RankView, communicator_in, is_refused, posts, posts_not, starts}
use Rattle.mpx_rank.specs.Shown.{rank_of}
use Rattle.mpx_rank.proofs.interpreter.Interpreter.post_next.Goals as goal

pub returns-in_ok-bind-in-Some : goal.returns-in_ok-bind-in-Some
returns-in_ok-bind-in-Some g c =
    let terms = g.C.Carrier.terms _ in
    let place = g.C.Carrier.place in
    let old = rank_of place c.args.self.now in
    let posting = c.args.posting.now in
    let at = place c.in-Ok-Some.call in
    let word = c.in-Some.word.now in
    let on : option_copied c.communicator-on.result ≡ communicator_in (old.bound (communicator_word posting)) = c.communicator-on.ensures ∙ ap (λ w. communicator_in (old.bound w)) c.words_of-words.ensures.on in
    let said = subst (λ o. terms.tries c.args.carrier.now old.me posting o (Ok (option_map place c.in-Ok-Some.field-0)) c.post.new.self) on c.in-Ok-Some.ensures in
    let tried = subst (λ o. terms.tries c.args.carrier.now old.me posting (communicator_in (old.bound (communicator_word posting))) (Ok (option_map place o)) c.post.new.self) c.in-Ok-Some.field-0-is said in
    let open_as : started_as posting ≡ Some word = sym c.words_of-words.ensures.request ∙ ap option_copied c.in-Some.is in
    subst (λ (r : RankView g.row.C-Communicator.Denot). Move terms old c.args.carrier.now r c.post.new.self)
    (λ i. record { me = old.me; bound = old.bound; requests = λ other. sym (ap (option_map place) (c.in_ok-bind-in-Some.ensures.bound other) ∙ binds_seen place (Some word) c.in-Ok-Some.call (looked_up c.args.self.now.requests) other) i; todo = c.args.rest.now; waits = sym c.requires.waits i; lines = old.lines; origins = old.origins })
    (starts posting c.args.rest.now word at.0 at.1 c.requires.waits c.requires.todo open_as tried)

pub returns-in-None : goal.returns-in-None
returns-in-None g c =
    let terms = g.C.Carrier.terms _ in
    let place = g.C.Carrier.place in
    let old = rank_of place c.args.self.now in
    let posting = c.args.posting.now in
    let at = place c.in-Ok-Some.call in
    let on : option_copied c.communicator-on.result ≡ communicator_in (old.bound (communicator_word posting)) = c.communicator-on.ensures ∙ ap (λ w. communicator_in (old.bound w)) c.words_of-words.ensures.on in
    let said = subst (λ o. terms.tries c.args.carrier.now old.me posting o (Ok (option_map place c.in-Ok-Some.field-0)) c.post.new.self) on c.in-Ok-Some.ensures in
    let tried = subst (λ o. terms.tries c.args.carrier.now old.me posting (communicator_in (old.bound (communicator_word posting))) (Ok (option_map place o)) c.post.new.self) c.in-Ok-Some.field-0-is said in
    let none : started_as posting ≡ None = sym c.words_of-words.ensures.request ∙ ap option_copied c.in-None.is in
    subst (λ (r : RankView g.row.C-Communicator.Denot). Move terms old c.args.carrier.now r c.post.new.self)
    (λ i. record { me = old.me; bound = old.bound; requests = old.requests; todo = c.args.rest.now; waits = Some (record { name = at.0; call = at.1; target = sym c.words_of-words.ensures.target i }); lines = old.lines; origins = old.origins })
    (posts posting c.args.rest.now at.0 at.1 c.requires.waits c.requires.todo none tried)

pub returns-in-Ok-None : goal.returns-in-Ok-None
returns-in-Ok-None g c =
    let terms = g.C.Carrier.terms _ in
    let place = g.C.Carrier.place in
    let old = rank_of place c.args.self.now in
    let posting = c.args.posting.now in
    let on : option_copied c.communicator-on.result ≡ communicator_in (old.bound (communicator_word posting)) = c.communicator-on.ensures ∙ ap (λ w. communicator_in (old.bound w)) c.words_of-words.ensures.on in
    let said = subst (λ o. terms.tries c.args.carrier.now old.me posting o (Ok (option_map place c.in-Ok-None.field-0)) c.post.new.self) on c.in-Ok-None.ensures in
    let tried = subst (λ o. terms.tries c.args.carrier.now old.me posting (communicator_in (old.bound (communicator_word posting))) (Ok (option_map place o)) c.post.new.self) c.in-Ok-None.field-0-is said in
    (refl, posts_not posting c.args.rest.now c.requires.waits c.requires.todo tried)

pub returns-in-Err : goal.returns-in-Err
returns-in-Err g c =
    let terms = g.C.Carrier.terms _ in
    let old = rank_of g.C.Carrier.place c.args.self.now in
    let posting = c.args.posting.now in
    let on : option_copied c.communicator-on.result ≡ communicator_in (old.bound (communicator_word posting)) = c.communicator-on.ensures ∙ ap (λ w. communicator_in (old.bound w)) c.words_of-words.ensures.on in
    let tried = subst (λ o. terms.tries c.args.carrier.now old.me posting o (Err c.in-Err.refusal) c.post.new.self) on c.in-Err.ensures in
    subst (λ (r : RankView g.row.C-Communicator.Denot). Move terms old c.args.carrier.now r c.post.new.self) (sym c.in_ok-be_refused-in-Err.ensures.line)
    (is_refused posting c.args.rest.now c.in-Err.refusal c.requires.waits c.requires.todo c.in_ok-be_refused-in-Err.ensures.other tried)

pub post-requires : goal.post-requires
post-requires g c =
    let ops : List Operation = map (λ b. let o = goal.OwnOp-dyn g (b.vtable, b.value) in operation_of (o.word_bytes b.value) (o.fits_type b.value) (o.combination b.value)) c.args.ops.now.list.items in
    let terms = g.C.Carrier.terms ops in
    let old = rank_of g.C.Carrier.place c.args.self.now in
    let posting = c.args.posting.now in
    let on : option_copied c.communicator-on.result ≡ communicator_in (old.bound (communicator_word posting)) = c.communicator-on.ensures ∙ ap (λ w. communicator_in (old.bound w)) c.words_of-words.ensures.on in
    subst (λ o. terms.may c.args.carrier.now old.me posting o) (sym on) (c.requires.may posting c.args.rest.now c.requires.waits c.requires.todo)
