use Rattle.std.proofs.Common.{◌≡◌, ℕ, true, List, [], ◌∷◌, length, Option, Some, None, sym, ◌∙◌, subst, rules}
use Rattle.std.proofs.lemmas.Bool.{cond-true}
use Rattle.std.specs.Option.{option_map_or}
use Rattle.mpx_name.specs.Name.{Name}
use Rattle.mpx_match.specs.declared.faults.FaultKind.TheVariants.{Amount}
use Rattle.mpx_birth.specs.Births.{BirthView, rank_in}
use Rattle.mpx_value.specs.declared.outcomes.Outcome.{Outcome}
use Rattle.mpx_value.specs.declared.outcomes.Outcome.TheVariants.{Fault, NewComm}
use Rattle.mpx_post.specs.Agreement.{first_of}
use Rattle.mpx_value.specs.Children.{children_in, has_room, named_children}
use Rattle.mpx_value.specs.Values.{IsMade, new_communicator, place_among}
use Rattle.mpx_value.proofs.values.new_communicator.Goals as goal

-- which of new communicators a process is in is place_among of them, whichever it is
by_rank : (o : Option ℕ) (new : Name × BirthView) (rest : Outcome) → IsMade rest → IsMade (option_map_or (λ rank. NewComm new.0 (length new.1.members) rank) o rest)
by_rank None new rest h = h
by_rank (Some rank) new rest h = tt

told_made : (made : List (Name × BirthView)) (process : ℕ) → IsMade (place_among made process)
told_made [] process = tt
told_made (new ∷ rest) process = by_rank (rank_in process new.1.members) new (place_among rest process) (told_made rest process)

pub returns-in_err-made : goal.returns-in_err-made
returns-in_err-made c =
    let row = c.args.row.now in
    let name = c.args.name.now in
    let room : has_room name ≡ true = sym c.has_room.ensures ∙ c.if-has_room.true in
    let all = place_among (named_children name c.args.call (children_in (first_of row).kind c.args.birth.now row)) c.args.process in
    let made : IsMade (new_communicator c.args.birth.now row name c.args.call c.args.process) =
    subst IsMade (sym (cond-true (has_room name) all (Fault (record { what = Amount; rank = 0 })) room)) (told_made (named_children name c.args.call (children_in (first_of row).kind c.args.birth.now row)) c.args.process) in
    search (rules, made)
