use Rattle.std.proofs.Common.{◌∷◌, ◌++◌, [], ap, sym, refl, subst, ◌∙◌, Some}
use Rattle.mpx_meaning.specs.Standing.{WaitView}
use Rattle.mpx_rank.specs.declared.carrier.Heard.TheVariants.{NotYet, Told}
use Rattle.mpx_rank.specs.Carriers.{HearsOf}
use Rattle.mpx_rank.specs.Moves.{Move, RankView, hears, waits_on}
use Rattle.mpx_rank.specs.Shown.{rank_of, wait_of}
use Rattle.mpx_rank.proofs.interpreter.Interpreter.hear.Goals as goal

pub returns-in-NotYet : goal.returns-in-NotYet
returns-in-NotYet g c =
    let terms = g.C.Carrier.terms _ in
    let place = g.C.Carrier.place in
    let old = rank_of place c.args.self.now in
    let w : WaitView = wait_of place c.args.wait in
    let heard : HearsOf terms c.hear.new.self old.me (place c.args.wait.call) c.args.wait.call (NotYet c.in-NotYet.call) = subst (HearsOf terms c.hear.new.self old.me (place c.args.wait.call) c.args.wait.call) c.in-NotYet.is c.in_ok-call.ensures.told in (
      λ i. record { me = old.me; bound = old.bound; requests = old.requests; todo = old.todo; waits = Some (record { name = (place (heard.0 i)).0; call = (place (heard.0 i)).1; target = w.target }); lines = old.lines; origins = old.origins },
      waits_on w refl c.in_ok-call.ensures.hears heard.1,
    )

pub returns-in_ok-bind-in-Told : goal.returns-in_ok-bind-in-Told
returns-in_ok-bind-in-Told g c =
    let terms = g.C.Carrier.terms _ in
    let place = g.C.Carrier.place in
    let old = rank_of place c.args.self.now in
    let w : WaitView = wait_of place c.args.wait in
    let waiting : RankView g.row.C-Communicator.Denot = record old { waits = Some w } in
    let heard : HearsOf terms c.hear.new.self old.me (place c.args.wait.call) c.args.wait.call (Told c.in-Told.line c.in-Told.given) = subst (HearsOf terms c.hear.new.self old.me (place c.args.wait.call) c.args.wait.call) c.in-Told.is c.in_ok-call.ensures.told in
    let lines = c.in_ok-push-in-Told.ensures.items ∙ ap (λ l. old.lines ++ l ∷ []) heard.2 in
    subst (λ (r : RankView g.row.C-Communicator.Denot). Move terms waiting c.args.carrier.now r c.hear.new.self)
    (λ i. record { me = old.me; bound = λ word. sym (c.in_ok-bind-in-Told.ensures.bound word) i; requests = old.requests; todo = old.todo; waits = sym c.requires i; lines = sym lines i; origins = sym c.in_ok-push_origins-in-Told.ensures i })
    (hears w heard.0 c.in-Told.given refl c.in_ok-call.ensures.hears heard.1 heard.3)
