-- Lawful and held ports.
use Rattle.std.proofs.Common.{◌≡◌, ◌≢◌, ◌⊎◌, ℕ, ◌+◌, ◌<◌, All, Bool, false, List, [], ◌∷◌, ◌++◌, length, take, Some, Result, Ok, Err, true, slice_get, refl, sym, ap, ◌∙◌, subst, arith, inl, inr, length-append, ⊎_elim, append_assoc}
use Rattle.std.specs.Prelude.{ℤ, Option, None, IfNone, IfOk, IfSome, IsTrue, OnOk, OnErr, is_some}
use Rattle.std.specs.List.{AllByRecursion}
use Rattle.std.proofs.lemmas.List.{append-nil}
use Rattle.std.proofs.lemmas.List.Elements.{All-append, All-from_recursion, All-nil, All-push}
use Rattle.join_core.specs.declared.memory.OutOfMemory.{OutOfMemory}
use mathlib.Core.List.{IsPrefix}
use Rattle.atomic_table.specs.Seated.{TableId}
use Rattle.mpx_name.specs.Name.{Name}
use Rattle.mpx_num.specs.declared.own.Operation.{Operation}
use Rattle.mpx_post.specs.Posts.{Given}
use Rattle.mpx_birth.specs.Births.{BirthView, rank_in}
use Rattle.mpx_post.specs.declared.draft.Draft.{Draft}
use Rattle.mpx_post.specs.declared.draft.PostError.{PostError}
use Rattle.mpx_post.specs.Drafts.{at, checked}
use Rattle.mpx_board.specs.Boards.{IsGone, Look, told}
use Rattle.mpx_value.specs.Histories.{Made, has_freed, posts_on}
use Rattle.mpx_node.specs.declared.finished.Finished.{Finished}
use Rattle.mpx_node.specs.Nodes.{NodeView, Posts, checked_on, freed_on, front_on, posted_on, result_on}
use Rattle.mpx_world.specs.Drafted.{makes_checked}
use Rattle.mpx_world.specs.Worlds.{ProcessView}
use Rattle.mpx_bus.specs.declared.act.Act.{Act}
use Rattle.mpx_bus.specs.declared.act.Act.TheVariants as A
use Rattle.mpx_bus.specs.declared.act.Setup.{Setup}
use Rattle.mpx_bus.specs.Acts.{LetsNothingGo, at_start, node_at, process_at}
use Rattle.mpx_bus.specs.Rule.{IsPlanned, Stood, planned_posts, world_of}
use Rattle.mpx_bus.specs.Ports.{PortView, PortGoes, PortGoesOn, HasListed, IsNew, IsSamePort, KeepsPlan, node_in, process_in}
use Rattle.mpx_bus.specs.declared.port.Push.{Push}
use Rattle.mpx_bus.specs.declared.port.Push.TheVariants as P
use Rattle.mpx_bus.specs.declared.port.Pop.{Pop}
use Rattle.mpx_bus.specs.declared.port.Pop.TheVariants as O
use Rattle.mpx_bus.specs.Answers.{Lists, PopsOne, PushesLast, PushesNext, Stopped}
use Rattle.mpx_post.proofs.Lists.{slice_get-append}
use Rattle.mpx_world.proofs.Lists.{slice_get-push, slice_get-push_cases}
use Rattle.mpx_world.proofs.Opened.{member_ranked}
use Rattle.mpx_world.proofs.Retention.{IsKeptOn}
use Rattle.mpx_bus.proofs.Journals.{after-append}
use Rattle.mpx_bus.proofs.Keeping.{results_after}
use Rattle.mpx_bus.proofs.Ports.{new_stood}
use Rattle.mpx_bus.proofs.Goes.{NoPosts, goes_itself, goes_then, made_more, two_acts}
use Rattle.mpx_shared.specs.LawfulPorts.{AreAllSince, HasGoneOn, IsLawful, IsListedContext, IsHeldPort, IsNext, MakesNoPost, is_closed, living, made_at, made_in, next_call, planned_birth, with_context}
use Rattle.mpx_shared.specs.Laws.{IsBirthByPlan, IsFinished}
use Rattle.mpx_shared.specs.Tickets.{GathersOne, PostsThen}
use Rattle.mpx_ticket.specs.declared.ticket.Ticket.{Ticket}
use Rattle.mpx_shared.proofs.Dying.{gone_after, listed_living}
use Rattle.mpx_shared.proofs.Plans.{operations_of, plan_births, prefix_itself, prefix_next, prefix_take, prefix_then, ranks_of}
use Rattle.mpx_ticket.proofs.Standing.{checked_parts, gone_stored, own_beside, own_stored, stood_birth, stood_good, stood_member, stood_value, within}

-- NO POSTS

-- these acts are no posts, and let no results go
abbrev pub ArePassive : List Act → Type 0
ArePassive acts = NoPosts acts × All LetsNothingGo acts

pub are_passive : (acts : List Act) → NoPosts acts → AllByRecursion LetsNothingGo acts → ArePassive acts
are_passive acts none keep = (none, All-from_recursion LetsNothingGo acts keep)

abbrev pub no_post_itself : (a b : PortView) → b ≡ a → MakesNoPost a b
no_post_itself a b e = record { goes = goes_itself a b e; acts = []; journal = ap (λ (x : PortView). x.journal) e ∙ sym (append-nil a.journal); made = ap made_in e; keeps = All-nil LetsNothingGo }

abbrev pub no_post_then : (a b c : PortView) → MakesNoPost a b → MakesNoPost b c → MakesNoPost a c
no_post_then a b c g h = record {
  goes = goes_then a b c g.goes h.goes;
  acts = g.acts ++ h.acts;
  journal = h.journal ∙ ap (λ js. js ++ h.acts) g.journal ∙ append_assoc a.journal g.acts h.acts;
  made = h.made ∙ g.made;
  keeps = All-append LetsNothingGo g.acts h.acts g.keeps h.keeps;
}

-- the same port has done these too
pub made_same : (a b : PortView) → IsSamePort a b → (journal : List Act) → b.journal ≡ journal → process_in b ≡ process_at a.setup a.me journal
made_same a b same journal is = λ i. process_at (same.setup i) (same.me i) (is i)

abbrev pub no_post_by : (a b : PortView) (more : List Act) → PortGoesOn a b → b.journal ≡ a.journal ++ more → ArePassive more → MakesNoPost a b
no_post_by a b more goes is none = record {
  goes = goes;
  acts = more;
  journal = is;
  made = ap (λ (v : ProcessView). v.made) (made_same a b goes.same (a.journal ++ more) is) ∙ made_more a.setup a.me a.journal more none.0;
  keeps = none.1;
}

pub no_post_gather : (parent : Name) (tag : ℤ) (ranks : List ℤ) (r : Result Name PostError) (a b : PortView) → PortGoesOn a b → OnOk r (b.journal ≡ a.journal ++ A.Gathered parent tag ranks ∷ []) → OnErr r (b ≡ a) → MakesNoPost a b
no_post_gather parent tag ranks (Ok name) a b goes ok err = no_post_by a b (A.Gathered parent tag ranks ∷ []) goes ok (are_passive (A.Gathered parent tag ranks ∷ []) (tt, tt) (tt, tt))
no_post_gather parent tag ranks (Err e) a b goes ok err = no_post_itself a b err

pub gathers_one : (parent : Name) (tag : ℤ) (ranks : List ℤ) (r : Result Name PostError) (a b : PortView) → OnOk r (b.journal ≡ a.journal ++ A.Gathered parent tag ranks ∷ []) → OnErr r (b ≡ a) → GathersOne parent tag ranks r a b
gathers_one parent tag ranks (Ok name) a b ok err = ok
gathers_one parent tag ranks (Err e) a b ok err = err

pub no_post_pop : (pop : Pop) (a b : PortView) → PortGoesOn a b → PopsOne pop a b → MakesNoPost a b
no_post_pop (O.Took frame) a b goes p = no_post_by a b (A.Popped frame ∷ A.Took frame ∷ []) goes (two_acts a.journal b.journal (A.Popped frame) (A.Took frame) p) (are_passive (A.Popped frame ∷ A.Took frame ∷ []) (tt, (tt, tt)) (tt, (tt, tt)))
no_post_pop O.Empty a b goes p = no_post_itself a b p
no_post_pop (O.OutOfMemory frame) a b goes p =
    ⊎_elim
    (λ (e : b.journal ≡ a.journal ++ A.Popped frame ∷ []). no_post_by a b (A.Popped frame ∷ []) goes e (are_passive (A.Popped frame ∷ []) (tt, tt) (tt, tt)))
    (λ (e : Stopped frame a b). no_post_by a b (A.Popped frame ∷ A.StoppedTaking frame e.left ∷ []) goes (two_acts a.journal b.journal (A.Popped frame) (A.StoppedTaking frame e.left) e.journal) (are_passive (A.Popped frame ∷ A.StoppedTaking frame e.left ∷ []) (tt, (tt, tt)) (tt, (tt, tt))))
    p

-- a list that is there, or a new one
listed_by : (limit : ℕ) (a mid : PortView) → Lists limit a mid → (more : List Act) × (ArePassive more × (mid.journal ≡ a.journal ++ more))
listed_by limit a mid l =
    ⊎_elim
    (λ (e : (a.kept ≢ []) × (mid ≡ a)). ([], ((tt, All-nil LetsNothingGo), ap (λ (x : PortView). x.journal) e.1 ∙ sym (append-nil a.journal))))
    (λ (e : (a.kept ≡ []) × HasListed limit a mid). (A.Acknowledged e.1.said ∷ [], (are_passive (A.Acknowledged e.1.said ∷ []) (tt, tt) (tt, tt), e.1.journal)))
    l

no_posts_both : (early late : List Act) → NoPosts early → NoPosts late → NoPosts (early ++ late)
no_posts_both [] late m n = n
no_posts_both (a ∷ early) late m n = (m.0, no_posts_both early late m.1 n)

no_post_last : (bytes : List ℕ) (push : Push) (a mid b : PortView) (more : List Act) → PortGoesOn a b → ArePassive more → mid.journal ≡ a.journal ++ more → PushesLast bytes push mid b → MakesNoPost a b
no_post_last bytes P.Pushed a mid b more goes none is p =
    no_post_by a b (more ++ A.Pushed bytes ∷ []) goes (p ∙ ap (λ (j : List Act). j ++ A.Pushed bytes ∷ []) is ∙ append_assoc a.journal more (A.Pushed bytes ∷ [])) (no_posts_both more (A.Pushed bytes ∷ []) none.0 (tt, tt), All-push LetsNothingGo more (A.Pushed bytes) none.1 tt)
no_post_last bytes (P.Full frame) a mid b more goes none is p = no_post_by a b more goes (p.1.0 ∙ is) none

pub no_post_put : (limit : ℕ) (r : Result Push OutOfMemory) (a b : PortView) → PortGoesOn a b → IfOk r (λ push. PushesNext limit push a b) → OnErr r (b ≡ a) → MakesNoPost a b
no_post_put limit (Ok push) a b goes next err =
    let l = listed_by limit a next.listed next.lists in
    no_post_last next.bytes push a next.listed b l.0 goes l.1.0 l.1.1 next.pushes
no_post_put limit (Err e) a b goes next err = no_post_itself a b err

-- SINCE THE LOCK

gone_on_more : {setup : Setup} {me : ℕ} {opening : List Act} (a b : PortView) (more : List Act) → HasGoneOn setup me opening a → IsSamePort a b → b.journal ≡ a.journal ++ more → IsPrefix (made_in a) (made_in b) → All LetsNothingGo more → HasGoneOn setup me opening b
gone_on_more {setup} {me} {opening} a b more g same grows made keeps = record {
  since = g.since ++ more;
  journal = grows ∙ ap (λ (js : List Act). js ++ more) g.journal ∙ append_assoc opening g.since more;
  posts = prefix_then (made_at setup me opening) (made_in a) (made_in b) g.posts made;
  results = λ name call f e.
      subst (λ (v : ProcessView). result_on v.node name call ≡ Some f) (sym (made_same a b same (a.journal ++ more) grows ∙ after-append a.setup.operations a.journal more (at_start a.setup a.me)))
      (results_after a.setup.operations more (process_in a) keeps name call f (g.results name call f e));
  keeps = All-append LetsNothingGo g.since more g.keeps keeps;
}

-- a context that is dead stays so
dead_stays : (a b : PortView) (more : List Act) → IsSamePort a b → b.journal ≡ a.journal ++ more → (name : Name) → IsGone (node_in a).board name → IsGone (node_in b).board name
dead_stays a b more same grows name dead =
    subst (λ (v : ProcessView). IsGone v.node.board name) (sym (made_same a b same (a.journal ++ more) grows ∙ after-append a.setup.operations a.journal more (at_start a.setup a.me)))
    (gone_after a.setup.operations more (process_in a) name dead)

listed_more : (name : Name) (contexts : List Name) (new : Option Name) → IsListedContext name contexts → IsListedContext name (with_context contexts new)
listed_more name contexts None (inl e) = inl e
listed_more name contexts None (inr there) = inr there
listed_more name contexts (Some context) (inl e) = inl e
listed_more name contexts (Some context) (inr there) = inr (there.0, slice_get-append contexts (context ∷ []) there.0 name there.1)

-- a context that is new or was listed
listed_new : (name : Name) (contexts : List Name) (new : Option Name) → IfSome new (λ context. context ≡ name) → IfNone new (IsListedContext name contexts) → IsListedContext name (with_context contexts new)
listed_new name contexts None some none = none
listed_new name contexts (Some context) some none = inr (length contexts, slice_get-push contexts context ∙ ap Some some)

all_since_more : (setup : Setup) (me : ℕ) (opening : List Act) (contexts : List Name) (a b : PortView) (m : Made) (new : Option Name) → AreAllSince setup me opening a contexts → made_in b ≡ made_in a ++ m ∷ [] → IsListedContext m.name (with_context contexts new)
    → ((name : Name) → IsGone (node_in a).board name → IsGone (node_in b).board name) → AreAllSince setup me opening b (with_context contexts new)
all_since_more setup me opening contexts a b m new all made here stays_dead k x low there =
    slice_get-push_cases (λ (y : Made) i. IsListedContext y.name (with_context contexts new) ⊎ IsGone (node_in b).board y.name) (made_in a) m k x (sym (ap (λ ms. slice_get ms k) made) ∙ there)
    (λ old. elim (all k x low old) [ inl l ↦ inl (listed_more x.name contexts new l) | inr dead ↦ inr (stays_dead x.name dead) ])
    (λ same last. subst (λ (y : Made). IsListedContext y.name (with_context contexts new) ⊎ IsGone (node_in b).board y.name) same (inl here))

-- MOORED PORTS

-- a port that is put under a lock
pub held_new : {table : TableId} {setup : Setup} {me : ℕ} {opening : List Act} {before total : ℕ} (contexts : List Name) (b : PortView) → IsLawful table setup me b → b.journal ≡ opening → length (made_in b) ≡ before → total ≡ 0 → IsHeldPort table setup me opening before b total contexts
held_new {table} {setup} {me} {opening} {before} {total} contexts b d is counted none =
    let same : made_at setup me opening ≡ made_in b = λ i. made_at (sym d.setup_is i) (sym d.me_is i) (sym is i) in
    record {
      table_is = d.table_is;
      setup_is = d.setup_is;
      me_is = d.me_is;
      planned = d.planned;
      counted = omega (arith, counted, none);
      gone_on = record {
        since = [];
        journal = is ∙ sym (append-nil opening);
        posts = prefix_itself (made_at setup me opening) (made_in b) (sym same);
        results = λ name call f e. sym (λ i. result_on (node_at (sym d.setup_is i) (sym d.me_is i) (sym is i)) name call) ∙ e;
        keeps = All-nil LetsNothingGo;
      };
      listed = λ k m low there. absurd (let l = within (made_in b) k m there in let long = ap length same in omega (arith, l, low, long));
    }

pub held_later : {table : TableId} {setup : Setup} {me : ℕ} {opening : List Act} {before total : ℕ} {contexts : List Name} (a b : PortView) → IsHeldPort table setup me opening before a total contexts → MakesNoPost a b
    → IsHeldPort table setup me opening before b total contexts
held_later a b m n = record {
  table_is = n.goes.same.table ∙ m.table_is;
  setup_is = n.goes.same.setup ∙ m.setup_is;
  me_is = n.goes.same.me ∙ m.me_is;
  planned = n.goes.plan m.planned;
  counted = ap length n.made ∙ m.counted;
  gone_on = gone_on_more a b n.acts m.gone_on n.goes.same n.journal (prefix_itself (made_in a) (made_in b) n.made) n.keeps;
  listed = λ k x low there. elim (m.listed k x low (sym (ap (λ ms. slice_get ms k) n.made) ∙ there)) [
    | inl l ↦ inl l
    | inr dead ↦ inr (dead_stays a b n.acts n.goes.same n.journal x.name dead)
  ];
}

-- contexts that are dead leave the list
pub held_leaves : {table : TableId} {setup : Setup} {me : ℕ} {opening : List Act} {before total : ℕ} {contexts : List Name} (fewer : List Name) (b : PortView) (board : Look) → board ≡ (node_in b).board → fewer ≡ living board contexts
    → IsHeldPort table setup me opening before b total contexts → IsHeldPort table setup me opening before b total fewer
held_leaves {table} {setup} {me} {opening} {before} {total} {contexts} fewer b board is left m = record {
  table_is = m.table_is;
  setup_is = m.setup_is;
  me_is = m.me_is;
  planned = m.planned;
  counted = m.counted;
  gone_on = m.gone_on;
  listed = λ k x low there. elim (m.listed k x low there) [
    | inl l ↦ subst (λ (k : Look × List Name). IsListedContext x.name k.1 ⊎ IsGone k.0 x.name) (λ i. (is i, sym left i)) (listed_living board contexts x.name l)
    | inr dead ↦ inr dead
  ];
}

-- a book with the same total
pub held_same : {table : TableId} {setup : Setup} {me : ℕ} {opening : List Act} {before total : ℕ} {contexts : List Name} (more : ℕ) (b : PortView) → more ≡ total → IsHeldPort table setup me opening before b total contexts → IsHeldPort table setup me opening before b more contexts
held_same {table} {setup} {me} {opening} {before} {total} {contexts} more b e m = subst (λ n. IsHeldPort table setup me opening before b n contexts) (sym e) m

pub lawful_of : {table : TableId} {setup : Setup} {me : ℕ} {opening : List Act} {before total : ℕ} {contexts : List Name} (b : PortView) → IsHeldPort table setup me opening before b total contexts → (KeepsPlan b → Stood b.setup b.me b.journal)
    → IsLawful table setup me b
lawful_of b m stood = record { table_is = m.table_is; setup_is = m.setup_is; me_is = m.me_is; planned = m.planned; stood = stood m.planned }

-- the node of a held port is that of its process
pub held_me : {table : TableId} {setup : Setup} {me : ℕ} {opening : List Act} {before total : ℕ} {contexts : List Name} (b : PortView) → IsHeldPort table setup me opening before b total contexts → (KeepsPlan b → Stood b.setup b.me b.journal)
    → (node_in b).me ≡ me
held_me b m stood = (stood_good b.setup b.me b.journal (stood m.planned)).me_is ∙ m.me_is

-- a post that is made, by the call of its ticket
pub posts_as : (name : Name) (r : Result Given PostError) (given : Given) (call call' : ℕ) (old new : NodeView) → r ≡ Ok given → Posts name r (Ok call) old new → call' ≡ posted_on old name → Posts name r (Ok call') old new
posts_as name (Ok x) given call call' old new e p is = (is, p.1)
posts_as name (Err x) given call call' old new e p is = absurd (cc e)

-- a port that stays as it is
pub stays : (a b : PortView) → b ≡ a → PortGoes b a
stays a b is = subst (λ (x : PortView). PortGoes x a) (sym is) (record { same = record { table = refl; pass = refl; setup = refl; me = refl }; keeps = λ bytes may. may })

-- a draft that was refused
pub refused_then : {table : TableId} {setup : Setup} {me : ℕ} {opening : List Act} {before total : ℕ} {contexts : List Name} (ops : List Operation) (amount : ℕ) (a : PortView) (node : NodeView) (name : Name) (draft : Draft) (refusal : PostError) (r : Result Ticket PostError)
    → IsHeldPort table setup me opening before a total contexts → (KeepsPlan a → Stood a.setup a.me a.journal) → amount ≡ total → node ≡ node_in a → ops ≡ setup.operations → Posts name (checked_on ops node name draft) (Err refusal) node node → r ≡ Err refusal
    → PostsThen table setup me opening (before + amount) name draft r
refused_then {table} {setup} {me} {opening} {before} ops amount a node name draft refusal r m stood whole here list refused is =
    subst (PostsThen table setup me opening (before + amount) name draft) (sym is)
    (record {
      before = a;
      after = a;
      lawful_before = lawful_of a m stood;
      lawful_after = lawful_of a m stood;
      gone_on = m.gone_on;
      counted = omega (arith, m.counted, whole);
      posts = subst (λ (x : NodeView × List Operation). Posts name (checked_on x.1 x.0 name draft) (Err refusal) x.0 x.0) (λ i. (here i, list i)) refused;
      ticket = tt;
      goes = record { same = record { table = refl; pass = refl; setup = refl; me = refl }; keeps = λ bytes may. may };
      acts = refl;
      kept = refl;
    })

-- A POST

-- a draft comes to the same by the same list and node
pub checks_by : (ops setup_ops : List Operation) (seen node : NodeView) (name : Name) (draft : Draft) (given : Given) → ops ≡ setup_ops → seen ≡ node → checked_on ops seen name draft ≡ Ok given → checked_on setup_ops node name draft ≡ Ok given
checks_by ops setup_ops seen node name draft given list here checks = subst (λ (x : NodeView × List Operation). checked_on x.1 x.0 name draft ≡ Ok given) (λ i. (here i, list i)) checks

made_posted : (setup : Setup) (me : ℕ) (journal : List Act) (name : Name) (draft : Draft) (given : Given) → checked_on setup.operations (process_at setup me journal).node name draft ≡ Ok given
    → (process_at setup me (journal ++ A.Posted name draft ∷ [])).made ≡ (process_at setup me journal).made ++ record { name = name; given = given } ∷ []
made_posted setup me journal name draft given is =
    ap (λ (v : ProcessView). v.made) (after-append setup.operations journal (A.Posted name draft ∷ []) (at_start setup me))
    ∙ ap (λ r. (makes_checked name r (process_at setup me journal)).made) is

-- the post that a draft comes to is the next of the plan
next_made : (setup : Setup) (me : ℕ) (journal : List Act) (count : ℕ) (name : Name) (draft : Draft) (given : Given) → Stood setup me journal → IsPlanned setup me journal → length (process_at setup me journal).made ≡ count
    → IsNext setup me count name draft → checked_on setup.operations (process_at setup me journal).node name draft ≡ Ok given → setup.planned ≡ true
    → slice_get (planned_posts setup me) count ≡ Some (record { name = name; given = given })
next_made setup me journal count name draft given s plan counted next is planned =
    let v = process_at setup me journal in
    let good = stood_good setup me journal s in
    let parts = checked_parts setup.operations (v.node.opened name) (told (v.node.board.contexts name).birth) v.node.me name draft given is in
    let born : planned_birth setup name ≡ Some parts.birth = plan_births setup (world_of setup s.happenings) planned s.planned (operations_of setup s.happenings) (ranks_of setup s.happenings) name parts.birth (stood_birth setup me journal s name parts.birth parts.born) in
    let first : v.made ≡ take count (planned_posts setup me) = prefix_take v.made (planned_posts setup me) (plan planned) ∙ ap (λ n. take n (planned_posts setup me)) counted in
    let call : posted_on v.node name ≡ next_call setup me count name = good.counted name ∙ ap (λ ms. length (posts_on name ms)) first in
    let unfreed : false ≡ is_closed setup me count name = sym parts.unfreed ∙ good.closed name ∙ ap (has_freed name) first in
    next planned parts.birth given born (subst (λ (x : ℕ × (ℕ × Bool)). checked setup.operations parts.birth x.0 (at name x.1.0 x.1.1) draft ≡ Ok given) (λ i. (good.me_is i, (call i, unfreed i))) parts.checks)

planned_more : (setup : Setup) (me : ℕ) (journal : List Act) (name : Name) (draft : Draft) (given : Given) → checked_on setup.operations (process_at setup me journal).node name draft ≡ Ok given → IsPlanned setup me journal
    → (setup.planned ≡ true → slice_get (planned_posts setup me) (length (process_at setup me journal).made) ≡ Some (record { name = name; given = given })) → IsPlanned setup me (journal ++ A.Posted name draft ∷ [])
planned_more setup me journal name draft given is plan next planned =
    let v = process_at setup me journal in
    subst (λ (ms : List Made). IsPrefix ms (planned_posts setup me)) (sym (made_posted setup me journal name draft given is)) (prefix_next v.made (planned_posts setup me) (record { name = name; given = given }) (plan planned) (next planned))

-- a held port that makes its next post
pub held_posts : {table : TableId} {setup : Setup} {me : ℕ} {opening : List Act} {before total : ℕ} {contexts : List Name} (amount : ℕ) (name : Name) (draft : Draft) (given : Given) (new : Option Name) (a b : PortView) (total' : ℕ) (contexts' : List Name)
    → IsHeldPort table setup me opening before a total contexts → (KeepsPlan a → Stood a.setup a.me a.journal) → amount ≡ total → total' ≡ total + 1 → IsNext setup me (before + amount) name draft → checked_on setup.operations (node_in a) name draft ≡ Ok given
    → IfSome new (λ context. context ≡ name) → IfNone new (IsListedContext name contexts) → contexts' ≡ with_context contexts new → IsSamePort a b → b.journal ≡ a.journal ++ A.Posted name draft ∷ []
    → IsHeldPort table setup me opening before b total' contexts'
held_posts {table} {setup} {me} {opening} {before} {total} {contexts} amount name draft given new a b total' contexts' m stood whole more next checks some none listed same grows =
    let is : checked_on a.setup.operations (node_in a) name draft ≡ Ok given = ap (λ (s : Setup). checked_on s.operations (node_in a) name draft) m.setup_is ∙ checks in
    let count : length (made_in a) ≡ before + amount = omega (arith, m.counted, whole) in
    let next' : IsNext a.setup a.me (length (made_in a)) name draft = subst (λ (x : Setup × (ℕ × ℕ)). IsNext x.0 x.1.0 x.1.1 name draft) (λ i. (sym m.setup_is i, (sym m.me_is i, sym count i))) next in
    let plan : IsPlanned a.setup a.me (a.journal ++ A.Posted name draft ∷ []) =
    planned_more a.setup a.me a.journal name draft given is m.planned (next_made a.setup a.me a.journal (length (made_in a)) name draft given (stood m.planned) m.planned refl next' is) in
    let post : Made = record { name = name; given = given } in
    let made : made_in b ≡ made_in a ++ post ∷ [] =
    ap (λ (v : ProcessView). v.made) (made_same a b same (a.journal ++ A.Posted name draft ∷ []) grows) ∙ made_posted a.setup a.me a.journal name draft given is in
    record {
      table_is = same.table ∙ m.table_is;
      setup_is = same.setup ∙ m.setup_is;
      me_is = same.me ∙ m.me_is;
      planned = subst (λ (x : Setup × (ℕ × List Act)). IsPlanned x.0 x.1.0 x.1.1) (λ i. (sym same.setup i, (sym same.me i, sym grows i))) plan;
      counted = ap length made ∙ (let l = length-append (made_in a) (post ∷ []) in omega (arith, l, m.counted, more));
      gone_on = gone_on_more a b (A.Posted name draft ∷ []) m.gone_on same grows (post ∷ [], sym made) (All-push LetsNothingGo [] (A.Posted name draft) (All-nil LetsNothingGo) tt);
      listed = subst (AreAllSince setup me opening b) (sym listed) (all_since_more setup me opening contexts a b post new m.listed made (listed_new name contexts new some none) (dead_stays a b (A.Posted name draft ∷ []) same grows));
    }

-- DOCKED PORTS

pub lawful_result : (table : TableId) (setup : Setup) (me : ℕ) (port : PortView) (name : Name) (call : ℕ) (f : Finished) → IsLawful table setup me port → result_on (node_in port) name call ≡ Some f → IsFinished setup me name call f
lawful_result table setup me port name call f d e =
    subst (λ (x : Setup × ℕ). IsFinished x.0 x.1 name call f) (λ i. (d.setup_is i, d.me_is i))
    (record { happenings = d.stood.happenings; may = d.stood.may; begins = d.stood.planned; value = stood_value port.setup port.me port.journal d.stood name call f e })

pub lawful_mine : (table : TableId) (setup : Setup) (me : ℕ) (port : PortView) (name : Name) (call : ℕ) (f : Finished) → IsLawful table setup me port → result_on (node_in port) name call ≡ Some f → slice_get (posts_on name (made_in port)) call ≡ Some f.mine
lawful_mine table setup me port name call f d e = own_beside port.setup port.me port.journal d.stood name call f e

-- its node knows its frees
pub lawful_closed : (table : TableId) (setup : Setup) (me : ℕ) (port : PortView) (name : Name) → IsLawful table setup me port → freed_on (node_in port) name ≡ has_freed name (made_in port)
lawful_closed table setup me port name d = (stood_good port.setup port.me port.journal d.stood).closed name

pub lawful_birth : (table : TableId) (setup : Setup) (me : ℕ) (port : PortView) (name : Name) (birth : BirthView) → IsLawful table setup me port → told ((node_in port).board.contexts name).birth ≡ Some birth → IsBirthByPlan setup name birth
lawful_birth table setup me port name birth d e =
    subst (λ (x : Setup). IsBirthByPlan x name birth) d.setup_is
    (record { happenings = d.stood.happenings; may = d.stood.may; begins = d.stood.planned; born = stood_birth port.setup port.me port.journal d.stood name birth e })

-- an own post is on its board, or it is dropped, or the context is dead
pub lawful_stored : (table : TableId) (setup : Setup) (me : ℕ) (port : PortView) (name : Name) (call : ℕ) (x : Given) → IsLawful table setup me port → slice_get (posts_on name (made_in port)) call ≡ Some x → IsKeptOn (node_in port).board name call me x
lawful_stored table setup me port name call x d mine = subst (λ p. IsKeptOn (node_in port).board name call p x) d.me_is (own_stored port.setup port.me port.journal d.stood name call x mine)

-- and then it has harvested the call
pub lawful_gone : (table : TableId) (setup : Setup) (me : ℕ) (port : PortView) (name : Name) (call : ℕ) (x : Given) → IsLawful table setup me port → slice_get (posts_on name (made_in port)) call ≡ Some x
    → IsGone (node_in port).board name ⊎ (call < ((node_in port).board.contexts name).dropped) → call < front_on (node_in port) name
lawful_gone table setup me port name call x d mine gone = gone_stored port.setup port.me port.journal d.stood name call x mine gone

-- it is a member of each context that it has opened
pub lawful_member : (table : TableId) (setup : Setup) (me : ℕ) (port : PortView) (name : Name) → IsLawful table setup me port → IsTrue (is_some ((node_in port).opened name)) → (birth : BirthView) × ((rank : ℕ) × (IsBirthByPlan setup name birth × (rank_in me birth.members ≡ Some rank)))
lawful_member table setup me port name d opened =
    let m = stood_member port.setup port.me port.journal d.stood name opened in
    let ranked = member_ranked m.birth.members m.rank port.me m.member in
    let born : IsBirthByPlan port.setup name m.birth = record { happenings = d.stood.happenings; may = d.stood.may; begins = d.stood.planned; born = m.born } in
    let rank_is : rank_in me m.birth.members ≡ Some ranked.0 = ap (λ p. rank_in p m.birth.members) (sym d.me_is) ∙ ranked.1 in
    (m.birth, (ranked.0, (subst (λ (x : Setup). IsBirthByPlan x name m.birth) d.setup_is born, rank_is)))

pub lawful_posts : (table : TableId) (setup : Setup) (me : ℕ) (port : PortView) → setup.planned ≡ true → IsLawful table setup me port → made_in port ≡ take (length (made_in port)) (planned_posts setup me)
lawful_posts table setup me port planned d =
    prefix_take (made_in port) (planned_posts port.setup port.me) (d.planned (ap (λ (x : Setup). x.planned) d.setup_is ∙ planned))
    ∙ (λ i. take (length (made_in port)) (planned_posts (d.setup_is i) (d.me_is i)))

new_as : (b : PortView) → b.journal ≡ [] → KeepsPlan b × (Stood b.setup b.me b.journal × (made_in b ≡ []))
new_as b is =
    subst (λ (j : List Act). IsPlanned b.setup b.me j × (Stood b.setup b.me j × ((process_at b.setup b.me j).made ≡ []))) (sym is)
    ((λ planned. (planned_posts b.setup b.me, refl)), (new_stood b.setup b.me, refl))

pub new_lawful : (setup : Setup) (table : TableId) (me : ℕ) (port : PortView) → IsNew setup table me port → IsLawful table setup me port
new_lawful setup table me port n = let x = new_as port n.journal_is in record { table_is = n.table_is; setup_is = n.setup_is; me_is = n.me_is; planned = x.0; stood = x.1.0 }

pub new_none : (setup : Setup) (table : TableId) (me : ℕ) (port : PortView) → IsNew setup table me port → length (made_in port) ≡ 0
new_none setup table me port n = ap length (new_as port n.journal_is).1.1
