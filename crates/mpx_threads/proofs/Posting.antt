-- What a post on a shared port comes to, by the plan.
use Rattle.std.proofs.Common.{◌≡◌, ℕ, ℤ, ◌+◌, ◌⊎◌, Bool, true, false, cond, List, length, Option, Some, None, refl, sym, ap, ◌∙◌, subst, inl, inr}
use Rattle.std.specs.Prelude.{slice_get, option_and_then, IsTrue, is_some, Result, Ok, Err}
use Rattle.std.proofs.lemmas.Option.{same_Some}
use Rattle.atomic_table.specs.Seated.{TableId}
use Rattle.mpx_num.specs.declared.own.Operation.{Operation}
use Rattle.mpx_name.specs.Name.{Name}
use Rattle.mpx_post.specs.Posts.{Given}
use Rattle.mpx_birth.specs.Births.{BirthView, of_members, rank_in}
use Rattle.mpx_post.specs.Drafts.{at, checked}
use Rattle.mpx_post.specs.Gatherings.{GatheringView, gathering}
use Rattle.mpx_post.specs.declared.draft.Draft.{Draft}
use Rattle.mpx_post.specs.declared.draft.PostError.{PostError}
use Rattle.mpx_post.specs.declared.draft.PostError.TheVariants.{Closed, NotMember}
use Rattle.mpx_post.proofs.Checks.{closed_there}
use Rattle.mpx_post.proofs.Gatherings.{closed_gathering}
use Rattle.mpx_board.specs.Boards.{told}
use Rattle.mpx_value.specs.Histories.{Made, gathered, has_freed}
use Rattle.mpx_node.specs.Nodes.{OpenedView, Opens, Posts, checked_by, checked_on, checked_there, freed_by, freed_on, gathering_name, gathers_by, gathers_on, gathers_there, posted_by, posted_on}
use Rattle.mpx_value.proofs.Histories.{gathered_there}
use Rattle.mpx_world.proofs.Steps.{Good}
use Rattle.mpx_bus.specs.declared.act.Act.{Act}
use Rattle.mpx_bus.specs.declared.act.Setup.{Setup}
use Rattle.mpx_bus.specs.Rule.{planned_posts, world_of}
use Rattle.mpx_bus.specs.Ports.{PortView, node_in, process_in}
use Rattle.mpx_statement.specs.declared.statement.Posting.{Posting}
use Rattle.mpx_statement.specs.Statements.{Gathers, draft_of, gathers_of}
use Rattle.mpx_meaning.specs.Ranks.{attempt_in, made_on, next_call, post_gathered, post_on}
use Rattle.mpx_ticket.specs.declared.ticket.Ticket.{Ticket}
use Rattle.mpx_shared.specs.LawfulPorts.{IsLawful, IsNext, made_in}
use Rattle.mpx_shared.specs.Tickets.{OpensThen, PostsThen, TellsClosed}
use Rattle.mpx_shared.proofs.LawfulPorts.{lawful_birth, lawful_member, lawful_posts}
use Rattle.mpx_shared.proofs.Plans as P
use Rattle.mpx_ticket.proofs.Standing.{stood_good}
use Rattle.mpx_threads.specs.ToldCalls.{CallComesTo, IsNextGathered, IsNextIn, Tried, first_posts, planned_birth}

-- what a draft and a gathering come to on an opened context
abbrev opened_draft : (ops : List Operation) (freed : Bool) → (call : ℕ) → Option BirthView → (me : ℕ) → Name → Draft → Result Given PostError
opened_draft ops freed call b me name draft = cond freed (Err Closed) (checked_there ops call b me name draft)

abbrev opened_gathering : (freed : Bool) → Option BirthView → (me : ℕ) → Name → (tag : ℤ) → List ℤ → Result GatheringView PostError
opened_gathering freed b me parent tag ranks = cond freed (Err Closed) (gathers_there b me parent tag ranks)

-- a draft on an opened context comes to what it comes to by the plan, where its birth is known or it is freed; else it is refused for
-- that
draft_is : (ops : List Operation) (freed : Bool) (call : ℕ) (b : Option BirthView) (me rank : ℕ) (name : Name) (draft : Draft) (made : List Made) (birth : BirthView) → call ≡ next_call name made → freed ≡ has_freed name made → rank_in me birth.members ≡ Some rank → ((x : BirthView) → b ≡ Some x → x ≡ birth)
    → (opened_draft ops freed call b me name draft ≡ Err NotMember) ⊎ (opened_draft ops freed call b me name draft ≡ checked ops birth me (at name (next_call name made) (has_freed name made)) draft)
draft_is ops true call b me rank name draft made birth count closed member same = inr (sym (closed_there ops birth me rank (at name (next_call name made) (has_freed name made)) draft member (sym closed)))
draft_is ops false call None me rank name draft made birth count closed member same = inl refl
draft_is ops false call (Some x) me rank name draft made birth count closed member same = inr (λ i. checked ops (same x refl i) me (at name (count i) (closed i)) draft)

-- so does one on any context, of whose members the process is one where it is opened
checked_is : (ops : List Operation) (o : Option OpenedView) (b : Option BirthView) (me : ℕ) (name : Name) (draft : Draft) (made : List Made) (birth : BirthView) → posted_by o ≡ next_call name made → freed_by o ≡ has_freed name made → (IsTrue (is_some o) → (rank : ℕ) × (rank_in me birth.members ≡ Some rank)) → ((x : BirthView) → b ≡ Some x → x ≡ birth)
    → (checked_by ops o b me name draft ≡ Err NotMember) ⊎ (checked_by ops o b me name draft ≡ checked ops birth me (at name (next_call name made) (has_freed name made)) draft)
checked_is ops None b me name draft made birth count closed member same = inl refl
checked_is ops (Some o) b me name draft made birth count closed member same = let ranked = member refl in draft_is ops o.freed o.posted b me ranked.0 name draft made birth count closed ranked.1 same

-- and a gathering
gathering_is : (freed : Bool) (b : Option BirthView) (me rank : ℕ) (parent : Name) (tag : ℤ) (ranks : List ℤ) (made : List Made) (birth : BirthView) → freed ≡ has_freed parent made → rank_in me birth.members ≡ Some rank → ((x : BirthView) → b ≡ Some x → x ≡ birth)
    → (opened_gathering freed b me parent tag ranks ≡ Err NotMember) ⊎ (opened_gathering freed b me parent tag ranks ≡ gathering birth me (length parent) (has_freed parent made) tag ranks)
gathering_is true b me rank parent tag ranks made birth closed member same =
    inr (sym (ap (λ c. gathering birth me (length parent) c tag ranks) (sym closed) ∙ closed_gathering birth me rank (length parent) tag ranks member))
gathering_is false None me rank parent tag ranks made birth closed member same = inl refl
gathering_is false (Some x) me rank parent tag ranks made birth closed member same = inr (λ i. gathering (same x refl i) me (length parent) (closed i) tag ranks)

gathers_is : (o : Option OpenedView) (b : Option BirthView) (me : ℕ) (parent : Name) (tag : ℤ) (ranks : List ℤ) (made : List Made) (birth : BirthView) → freed_by o ≡ has_freed parent made → (IsTrue (is_some o) → (rank : ℕ) × (rank_in me birth.members ≡ Some rank)) → ((x : BirthView) → b ≡ Some x → x ≡ birth)
    → (gathers_by o b me parent tag ranks ≡ Err NotMember) ⊎ (gathers_by o b me parent tag ranks ≡ gathering birth me (length parent) (has_freed parent made) tag ranks)
gathers_is None b me parent tag ranks made birth closed member same = inl refl
gathers_is (Some o) b me parent tag ranks made birth closed member same = let ranked = member refl in gathering_is o.freed b me ranked.0 parent tag ranks made birth closed ranked.1 same

-- where a gathering is opened its parent's birth is known
gathering_born : (freed : Bool) (b : Option BirthView) (me : ℕ) (parent : Name) (tag : ℤ) (ranks : List ℤ) (g : GatheringView) → opened_gathering freed b me parent tag ranks ≡ Ok g → (x : BirthView) × (b ≡ Some x)
gathering_born true b me parent tag ranks g e = cc e
gathering_born false None me parent tag ranks g e = cc e
gathering_born false (Some x) me parent tag ranks g e = (x, refl)

gathers_born : (o : Option OpenedView) (b : Option BirthView) (me : ℕ) (parent : Name) (tag : ℤ) (ranks : List ℤ) (g : GatheringView) → gathers_by o b me parent tag ranks ≡ Ok g → (x : BirthView) × (b ≡ Some x)
gathers_born None b me parent tag ranks g e = cc e
gathers_born (Some o) b me parent tag ranks g e = gathering_born o.freed b me parent tag ranks g e

module _ (table : TableId) (setup : Setup) (me : ℕ) (planned : setup.planned ≡ true) where
  -- what they come to by the plan, after its first so many posts
  abbrev planned_check : (count : ℕ) → Name → Draft → BirthView → Result Given PostError
  planned_check count name draft birth = checked setup.operations birth me (at name (next_call name (first_posts setup me count)) (has_freed name (first_posts setup me count))) draft

  abbrev planned_gathering : (count : ℕ) → Name → (tag : ℤ) → List ℤ → BirthView → Result GatheringView PostError
  planned_gathering count parent tag ranks birth = gathering birth me (length parent) (has_freed parent (first_posts setup me count)) tag ranks

  module _ (port : PortView) (lawful : IsLawful table setup me port) where
    good : Good (world_of port.setup lawful.stood.happenings) port.me (process_in port)
    good = stood_good port.setup port.me port.journal lawful.stood

    node_me : (node_in port).me ≡ me
    node_me = good.me_is ∙ lawful.me_is

    birth_told : (name : Name) (x : BirthView) → told ((node_in port).board.contexts name).birth ≡ Some x → planned_birth setup name ≡ Some x
    birth_told name x e = P.birth_is_planned setup name x planned (lawful_birth table setup me port name x lawful e)

    birth_same : (name : Name) (birth : BirthView) → planned_birth setup name ≡ Some birth → (x : BirthView) → told ((node_in port).board.contexts name).birth ≡ Some x → x ≡ birth
    birth_same name birth born x e = same_Some x birth (sym (birth_told name x e) ∙ born)

    made_first : (count : ℕ) → length (made_in port) ≡ count → made_in port ≡ first_posts setup me count
    made_first count counted = lawful_posts table setup me port planned lawful ∙ ap (first_posts setup me) counted

    posted_count : (count : ℕ) → length (made_in port) ≡ count → (name : Name) → posted_on (node_in port) name ≡ next_call name (first_posts setup me count)
    posted_count count counted name = good.counted name ∙ ap (next_call name) (made_first count counted)

    freed_is : (count : ℕ) → length (made_in port) ≡ count → (name : Name) → freed_on (node_in port) name ≡ has_freed name (first_posts setup me count)
    freed_is count counted name = good.closed name ∙ ap (has_freed name) (made_first count counted)

    ranked_in : (name : Name) (birth : BirthView) → planned_birth setup name ≡ Some birth → IsTrue (is_some ((node_in port).opened name)) → (rank : ℕ) × (rank_in me birth.members ≡ Some rank)
    ranked_in name birth born opened =
        let m = lawful_member table setup me port name lawful opened in
        let same : m.0 ≡ birth = same_Some m.0 birth (sym (P.birth_is_planned setup name m.0 planned m.1.1.0) ∙ born) in
        (m.1.0, ap (λ (x : BirthView). rank_in me x.members) (sym same) ∙ m.1.1.1)

    checked_port : (count : ℕ) → length (made_in port) ≡ count → (name : Name) (draft : Draft) (birth : BirthView) → planned_birth setup name ≡ Some birth
        → (checked_on setup.operations (node_in port) name draft ≡ Err NotMember) ⊎ (checked_on setup.operations (node_in port) name draft ≡ planned_check count name draft birth)
    checked_port count counted name draft birth born =
        subst (λ p. (checked_by setup.operations ((node_in port).opened name) (told ((node_in port).board.contexts name).birth) p name draft ≡ Err NotMember) ⊎ (checked_by setup.operations ((node_in port).opened name) (told ((node_in port).board.contexts name).birth) p name draft ≡ planned_check count name draft birth)) (sym node_me)
        (checked_is setup.operations ((node_in port).opened name) (told ((node_in port).board.contexts name).birth) me name draft (first_posts setup me count) birth (posted_count count counted name) (freed_is count counted name) (ranked_in name birth born) (birth_same name birth born))

    gathers_port : (count : ℕ) → length (made_in port) ≡ count → (parent : Name) (tag : ℤ) (ranks : List ℤ) (birth : BirthView) → planned_birth setup parent ≡ Some birth
        → (gathers_on (node_in port) parent tag ranks ≡ Err NotMember) ⊎ (gathers_on (node_in port) parent tag ranks ≡ planned_gathering count parent tag ranks birth)
    gathers_port count counted parent tag ranks birth born =
        subst (λ p. (gathers_by ((node_in port).opened parent) (told ((node_in port).board.contexts parent).birth) p parent tag ranks ≡ Err NotMember) ⊎ (gathers_by ((node_in port).opened parent) (told ((node_in port).board.contexts parent).birth) p parent tag ranks ≡ planned_gathering count parent tag ranks birth)) (sym node_me)
        (gathers_is ((node_in port).opened parent) (told ((node_in port).board.contexts parent).birth) me parent tag ranks (first_posts setup me count) birth (freed_is count counted parent) (ranked_in parent birth born) (birth_same parent birth born))

  -- whether a free is among its posts
  pub closed_so : {opening : List Act} (count : ℕ) (name : Name) (closed : Bool) → TellsClosed table setup me opening count name closed → closed ≡ has_freed name (first_posts setup me count)
  closed_so count name closed tells = tells.told ∙ ap (has_freed name) (made_first tells.port tells.lawful count tells.counted)

  -- A POST

  module _ (count : ℕ) (name : Name) (draft : Draft) (birth : BirthView) (born : planned_birth setup name ≡ Some birth) where
    abbrev outcome : Result Made PostError
    outcome = post_on setup.operations me (first_posts setup me count) draft name birth

    pub posted_so : {opening : List Act} (ticket : Ticket) → PostsThen table setup me opening count name draft (Ok ticket) → (old new : ℕ) → new ≡ old + 1 → Tried (first_posts setup me count) outcome (Ok (Some (ticket.name, ticket.call))) old new
    posted_so ticket then old new more = by_check (checked_port then.before then.lawful_before count then.counted name draft birth born) where
      by_check : (checked_on setup.operations (node_in then.before) name draft ≡ Err NotMember) ⊎ (checked_on setup.operations (node_in then.before) name draft ≡ planned_check count name draft birth) → Tried (first_posts setup me count) outcome (Ok (Some (ticket.name, ticket.call))) old new
      by_check (inl shut) = let is = then.ticket.1 in cc (shut, is)
      by_check (inr e) =
          let posts = subst (λ x. Posts name x (Ok ticket.call) (node_in then.before) (node_in then.after)) then.ticket.1 then.posts in
          (record { name = name; given = ticket.post }, ap (made_on name) (sym e ∙ then.ticket.1), then.ticket.0, posts.0 ∙ posted_count then.before then.lawful_before count then.counted name, more)

    pub refused_so : {opening : List Act} (refusal : PostError) → (refusal ≡ NotMember → ⊥) → PostsThen table setup me opening count name draft (Err refusal) → (old new : ℕ) → new ≡ old → Tried (first_posts setup me count) outcome (Err refusal) old new
    refused_so refusal member then old new same other = (by_answer (checked_on setup.operations (node_in then.before) name draft) refl then.posts, same) where
      by_check : (checked_on setup.operations (node_in then.before) name draft ≡ Err NotMember) ⊎ (checked_on setup.operations (node_in then.before) name draft ≡ planned_check count name draft birth) → checked_on setup.operations (node_in then.before) name draft ≡ Err refusal → outcome ≡ Err refusal
      by_check (inl shut) e = absurd (member (let same : refusal ≡ NotMember = cc (shut, e) in same))
      by_check (inr is) e = ap (made_on name) (sym is ∙ e)

      by_answer : (x : Result Given PostError) → checked_on setup.operations (node_in then.before) name draft ≡ x → Posts name x (Err refusal) (node_in then.before) (node_in then.after) → outcome ≡ Err refusal
      by_answer (Ok given) e posts = absurd (other posts.0)
      by_answer (Err r) e posts = by_check (checked_port then.before then.lawful_before count then.counted name draft birth born) (let same : refusal ≡ r = cc (posts.0) in e ∙ ap Err (sym same))

  -- where what it comes to is the plan's next, so is the post
  pub next_on : (count : ℕ) (name : Name) (draft : Draft) → ((birth : BirthView) (m : Made) → planned_birth setup name ≡ Some birth → post_on setup.operations me (first_posts setup me count) draft name birth ≡ Ok m → slice_get (planned_posts setup me) count ≡ Some m) → IsNext setup me count name draft
  next_on count name draft next plan birth given born checks = next birth (record { name = name; given = given }) born (ap (made_on name) checks)

  pub next_posted : (count : ℕ) (name : Name) (posting : Posting) → gathers_of posting ≡ None → IsNextIn setup me count name posting → IsNext setup me count name (draft_of posting)
  next_posted count name posting none next = next_on count name (draft_of posting) (λ birth m born e. next birth m born (ap (λ o. attempt_in setup.operations me (first_posts setup me count) (draft_of posting) o name birth) none ∙ e))

  pub next_gathered : (count : ℕ) (name : Name) (posting : Posting) (g : Gathers) → gathers_of posting ≡ Some g → IsNextIn setup me count name posting → IsNextGathered setup me count name g.tag g.ranks (draft_of posting)
  next_gathered count name posting g some next birth m born e = next birth m born (ap (λ o. attempt_in setup.operations me (first_posts setup me count) (draft_of posting) o name birth) some ∙ e)

  -- A GATHERING

  module _ (count : ℕ) (parent : Name) (tag : ℤ) (ranks : List ℤ) (draft : Draft) where
    -- the gathering that was opened
    record IsOpened (name : Name) : Type 0 where
      pub birth : BirthView
      pub born : planned_birth setup parent ≡ Some birth
      pub gathering_view : GatheringView
      pub gathers : planned_gathering count parent tag ranks birth ≡ Ok gathering_view
      pub name_is : name ≡ gathering_name parent gathering_view
      pub born_below : planned_birth setup name ≡ Some (of_members gathering_view.members)

    opened_so : {opening : List Act} (name : Name) → OpensThen table setup me opening count parent tag ranks (Ok name) → IsOpened name
    opened_so name then = by_answer (gathers_on (node_in then.before) parent tag ranks) refl then.opens where
      by_gathers : (g : GatheringView) (birth : BirthView) → planned_birth setup parent ≡ Some birth → name ≡ gathering_name parent g → gathers_on (node_in then.before) parent tag ranks ≡ Ok g
          → (gathers_on (node_in then.before) parent tag ranks ≡ Err NotMember) ⊎ (gathers_on (node_in then.before) parent tag ranks ≡ planned_gathering count parent tag ranks birth) → IsOpened name
      by_gathers g birth born named e (inl shut) = cc (shut, e)
      by_gathers g birth born named e (inr is) =
          let gathers : planned_gathering count parent tag ranks birth ≡ Ok g = sym is ∙ e in
          record {
            birth = birth;
            born = born;
            gathering_view = g;
            gathers = gathers;
            name_is = named;
            born_below = ap (planned_birth setup) named ∙ ap (option_and_then (gathered g.members)) born ∙ gathered_there birth me (length parent) (has_freed parent (first_posts setup me count)) tag ranks g gathers;
          }

      by_answer : (x : Result GatheringView PostError) → gathers_on (node_in then.before) parent tag ranks ≡ x → Opens parent x (Ok name) (node_in then.before) (node_in then.after) → IsOpened name
      by_answer (Err r) e opens = cc (opens.0)
      by_answer (Ok g) e opens =
          let known = gathers_born ((node_in then.before).opened parent) (told ((node_in then.before).board.contexts parent).birth) (node_in then.before).me parent tag ranks g e in
          let born = birth_told then.before then.lawful_before parent known.0 known.1 in
          by_gathers g known.0 born opens.0 e (gathers_port then.before then.lawful_before count then.counted parent tag ranks known.0 born)

    -- the post there is the plan's next
    pub next_below : {opening : List Act} (name : Name) → OpensThen table setup me opening count parent tag ranks (Ok name) → IsNextGathered setup me count parent tag ranks draft → IsNext setup me count name draft
    next_below name then next plan birth given born checks =
        let o = opened_so name then in
        let members = of_members o.gathering_view.members in
        let same : birth ≡ members = same_Some birth members (sym born ∙ o.born_below) in
        let below : post_on setup.operations me (first_posts setup me count) draft name members ≡ Ok (record { name = name; given = given }) = ap (made_on name) (ap (planned_check count name draft) (sym same) ∙ checks) in
        let there : post_on setup.operations me (first_posts setup me count) draft (gathering_name parent o.gathering_view) members ≡ Ok (record { name = name; given = given }) = subst (λ n. post_on setup.operations me (first_posts setup me count) draft n members ≡ Ok (record { name = name; given = given })) o.name_is below in
        next o.birth (record { name = name; given = given }) o.born (ap (post_gathered setup.operations me (first_posts setup me count) draft parent) o.gathers ∙ there)

    -- and what comes of it
    pub comes_below : {opening : List Act} (name : Name) → OpensThen table setup me opening count parent tag ranks (Ok name) → (result : Result (Option (Name × ℕ)) PostError) (old new : ℕ)
        → CallComesTo setup name (λ birth. post_on setup.operations me (first_posts setup me count) draft name birth) (first_posts setup me count) result old new
        → CallComesTo setup parent (λ birth. post_gathered setup.operations me (first_posts setup me count) draft parent (planned_gathering count parent tag ranks birth)) (first_posts setup me count) result old new
    comes_below name then result old new comes birth born =
        let o = opened_so name then in
        let members = of_members o.gathering_view.members in
        let same : o.birth ≡ birth = same_Some o.birth birth (sym o.born ∙ born) in
        let gathers : planned_gathering count parent tag ranks birth ≡ Ok o.gathering_view = ap (planned_gathering count parent tag ranks) (sym same) ∙ o.gathers in
        let is : post_on setup.operations me (first_posts setup me count) draft name members ≡ post_gathered setup.operations me (first_posts setup me count) draft parent (planned_gathering count parent tag ranks birth) =
        ap (λ n. post_on setup.operations me (first_posts setup me count) draft n members) o.name_is ∙ ap (post_gathered setup.operations me (first_posts setup me count) draft parent) (sym gathers) in
        subst (λ x. Tried (first_posts setup me count) x result old new) is (comes members o.born_below)

    pub gathering_refused : {opening : List Act} (refusal : PostError) → (refusal ≡ NotMember → ⊥) → OpensThen table setup me opening count parent tag ranks (Err refusal) → (old new : ℕ) → new ≡ old
        → CallComesTo setup parent (λ birth. post_gathered setup.operations me (first_posts setup me count) draft parent (planned_gathering count parent tag ranks birth)) (first_posts setup me count) (Err refusal) old new
    gathering_refused refusal member then old new same birth born other = (by_answer (gathers_on (node_in then.before) parent tag ranks) refl then.opens, same) where
      by_gathers : (gathers_on (node_in then.before) parent tag ranks ≡ Err NotMember) ⊎ (gathers_on (node_in then.before) parent tag ranks ≡ planned_gathering count parent tag ranks birth) → gathers_on (node_in then.before) parent tag ranks ≡ Err refusal
          → post_gathered setup.operations me (first_posts setup me count) draft parent (planned_gathering count parent tag ranks birth) ≡ Err refusal
      by_gathers (inl shut) e = absurd (member (let same : refusal ≡ NotMember = cc (shut, e) in same))
      by_gathers (inr is) e = ap (post_gathered setup.operations me (first_posts setup me count) draft parent) (sym is ∙ e)

      by_answer : (x : Result GatheringView PostError) → gathers_on (node_in then.before) parent tag ranks ≡ x → Opens parent x (Err refusal) (node_in then.before) (node_in then.after)
          → post_gathered setup.operations me (first_posts setup me count) draft parent (planned_gathering count parent tag ranks birth) ≡ Err refusal
      by_answer (Ok g) e opens = absurd (other opens.0)
      by_answer (Err r) e opens = by_gathers (gathers_port then.before then.lawful_before count then.counted parent tag ranks birth born) (let same : refusal ≡ r = cc (opens.0) in e ∙ ap Err (sym same))
