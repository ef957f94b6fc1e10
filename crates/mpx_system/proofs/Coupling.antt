-- What each doing keeps of a world and the ranks that move in it.
use Rattle.std.proofs.Common.{◌≡◌, ℕ, ◌<◌, ◌≤◌, Bool, true, false, cond, ◌==◌, ◌&&◌, List, [], ◌∷◌, ◌++◌, codes, Option, Some, None, refl, sym, ap, ◌∙◌, subst, arith, inl, inr}
use Rattle.std.specs.Prelude.{slice_get, nat_lt, is_some, IsTrue, Result, Ok, Err, if◌then◌else◌}
use Rattle.std.specs.Str.{bytes_eq}
use Rattle.std.proofs.lemmas.Bool.Decides.{nat_tests}
use Rattle.mpx_num.specs.declared.own.Operation.{Operation}
use Rattle.mpx_name.specs.Name.{Name}
use Rattle.mpx_birth.specs.Births.{BirthView}
use Rattle.mpx_post.specs.declared.draft.PostError.{PostError}
use Rattle.mpx_value.specs.declared.outcomes.Outcome.TheVariants.{NewComm}
use Rattle.mpx_value.specs.Histories.{Answer, Made, answer_with, birth_of, posts_on, Results, Within, results_of}
use Rattle.mpx_node.specs.Nodes.{OpenedView, fresh, opened_at_start}
use Rattle.mpx_world.specs.Worlds.{WorldView, history, births, Happening, Posts, Harvests, Gathers, Prunes, Sends, Takes, TakesPartly, Acknowledges, Forgets, IsNoPost, happens, MayHappen, goes_on as goes_on_world}
use Rattle.mpx_world.proofs.Lists.{same_number, name_itself}
use Rattle.mpx_world.proofs.Later.{Later, later_happens, later_itself, made_happens}
use Rattle.mpx_world.proofs.Steps.{holds_start}
use Rattle.mpx_world.proofs.Opened.{in_start}
use Rattle.mpx_world.proofs.Complete.{all_start}
use Rattle.mpx_world.specs.Forgetting.{LetsNothingGo}
use Rattle.mpx_statement.specs.declared.statement.Posting.{Posting}
use Rattle.mpx_statement.specs.declared.statement.Question.{Question}
use Rattle.mpx_statement.specs.declared.statement.Statement.{Statement}
use Rattle.mpx_statement.specs.declared.statement.Statement.TheVariants.{Post, Wait, Ask}
use Rattle.mpx_statement.specs.Statements.{bound_to, communicator_word as word_of, started_as}
use Rattle.mpx_statement.specs.Lookups.{named}
use Rattle.mpx_meaning.specs.Ranks.{Bound, Communicator, NullCommunicator, Todo, Do, Await, Local, answers, attempt, attempt_on, awaited_by, bind, bound_by, done, step}
use Rattle.mpx_meaning.specs.Evaluation.{State, start_state, bound_at_start, world_of, statements_of, known, or_stay, rank_goes_on, move, moves, IsReached, history as history_of_ranks}
use Rattle.mpx_meaning.specs.Told.{CarriesOut, none}
use Rattle.mpx_meaning.proofs.Steps.{heard, posted, started, told_at_once, turned_down, waited, step_asks, step_ends, step_hears, step_passes, step_posts, step_refused, step_starts, step_stays, step_waits}
use Rattle.mpx_meaning.proofs.Ways.{step-grows}
use Rattle.mpx_meaning.proofs.Ahead.{goes_on_cases}
use Rattle.mpx_meaning.proofs.Ends.{goes_on-at}
use Rattle.mpx_meaning.proofs.Passing.{carries_out-grows, step-carries_out, carried_out-tell}
use Rattle.mpx_meaning.proofs.Tells.{each-me, each-bound, given_by, named-bound}
use Rattle.mpx_system.specs.Systems.{System, posts_bound, posts_of, Doing, IsPassive, Nets, Drives, does, does_all, MayDo, MayDoAll, start_system, TellsResults, world_tells}
use Rattle.mpx_system.proofs.Posting.{Upheld, upheld_happens, is_there, tells_at, tells_on, value_known, Follows, Driven, follows_itself, IsBoundSo, driven_bound}

-- WHAT GOES ON WITHOUT A RANK'S MOVE

-- it makes no post and lets nothing go
passive_so : (h : Happening) → IsPassive h → IsNoPost h × LetsNothingGo h
passive_so (Posts p name given) never = absurd never
passive_so (Harvests p name) may = (tt, tt)
passive_so (Gathers p parent tag ranks) may = (tt, tt)
passive_so (Prunes p name n) may = (tt, tt)
passive_so (Sends p part) may = (tt, tt)
passive_so (Takes p place) may = (tt, tt)
passive_so (TakesPartly p place left) may = (tt, tt)
passive_so (Acknowledges p numbers) may = (tt, tt)
passive_so (Forgets p name below) never = absurd never

-- A WORLD AND ITS RANKS

-- the posts of the world are those of the ranks, each communicator that a word is bound to is opened at its node, each rank
-- has carried out the first of its statements by what its node holds, and moves of the evaluation lead to where the ranks
-- stand
pub record Couples (ops : List Operation) (script : List (List Statement)) (ranks : ℕ) (s : System) : Type 0 where
  pub upheld : Upheld s.world
  pub size : s.world.ranks ≡ ranks
  pub operations : s.world.operations ≡ ops
  pub opened : (p : ℕ) → p < ranks → (word : List ℕ) (name : Name) (birth : BirthView) → named (s.ranks p).bound word ≡ Some (Communicator name birth) → IsTrue (is_some ((s.world.each p).node.opened name))
  pub made : (p : ℕ) → (s.world.each p).made ≡ (s.ranks p).made
  pub relays : (p : ℕ) → ranks ≤ p → (s.ranks p).made ≡ []
  pub told : (p : ℕ) → CarriesOut ops (world_tells s.world p) (bound_at_start ranks) (statements_of script p) (s.ranks p)
  pub reached : IsReached ops script ranks s.ranks

module _ (ops : List Operation) (script : List (List Statement)) (ranks : ℕ) (s : System) (c : Couples ops script ranks s) where
  one_history : history s.world ≡ history_of_ranks ops s.ranks
  one_history = λ i. history_of_ranks (c.operations i) (λ p. record (s.ranks p) { made = c.made p i })

  -- what a node tells is known in the evaluation
  pub tells_known : (p : ℕ) → Within (world_tells s.world p) (known ops ranks s.ranks p)
  tells_known p name k answer e =
      let found = tells_at s.world c.upheld p name k answer e in
      let value = (c.upheld.holds.processes p).values name k found.0 found.1 in
      sym (λ i. results_of (one_history i) (c.size i) p name k)
      ∙ value_known s.world p name k found.0 value ∙ ap Some found.2

  -- what a rank's word is bound to is opened, and came to be as the bindings say
  pub bound_so : (p : ℕ) → p < ranks → (word : List ℕ) → IsBoundSo s.world p (named (s.ranks p).bound word)
  bound_so p l word name birth e = (
    c.opened p l word name birth e,
    (λ i. birth_of (one_history i) (c.size i) name) ∙ (each-bound ops script ranks s.ranks c.reached p l word name birth e).born,
  )

  -- what a rank's next statement comes to, by the posts of its process
  abbrev attempt_at : ℕ → Posting → Result Made PostError
  attempt_at p posting = attempt_on ops p (s.world.each p).made posting (named (s.ranks p).bound (word_of posting))

  attempts_same : (p : ℕ) (posting : Posting) → attempt ops (s.ranks p).me (s.ranks p).bound (s.ranks p).made posting ≡ attempt_at p posting
  attempts_same p posting = λ i. attempt_on ops (each-me ops script ranks s.ranks c.reached p i) (sym (c.made p) i) posting (named (s.ranks p).bound (word_of posting))

  pub driven : (p : ℕ) → p < ranks → (posting : Posting) → Driven s.world p (posts_bound ops p (s.world.each p).made posting (named (s.ranks p).bound (word_of posting))) (attempt_at p posting)
  driven p l posting =
      let to = named (s.ranks p).bound (word_of posting) in
      subst (λ o. Driven s.world p (posts_bound o p (s.world.each p).made posting to) (attempt_on o p (s.world.each p).made posting to)) c.operations
      (driven_bound s.world c.upheld p posting to (bound_so p l (word_of posting)))

-- A RANK'S MOVE

pub by_rank : (P : ℕ → Type 0) (p q : ℕ) → P p → ((q == p) ≡ false → P q) → P q
by_rank P p q here there = by_test (q == p) refl where
  by_test : (b : Bool) → (q == p) ≡ b → P q
  by_test true e = subst P (sym (same_number q p e)) here
  by_test false e = there e

pub goes_on-other : (ops : List Operation) (s : State) (p : ℕ) (r : Results) (q : ℕ) → (q == p) ≡ false → rank_goes_on ops s p r q ≡ s q
goes_on-other ops s p r q e = ap (λ b. cond b (or_stay (s q) (step ops r (s q))) (s q)) e

moves-append : (ops : List Operation) (ranks : ℕ) (ps qs : List ℕ) (s : State) → moves ops ranks (ps ++ qs) s ≡ moves ops ranks qs (moves ops ranks ps s)
moves-append ops ranks [] qs s = refl
moves-append ops ranks (p ∷ ps) qs s = moves-append ops ranks ps qs (move ops ranks s p)

-- one more move
reached-more : (ops : List Operation) (script : List (List Statement)) (ranks : ℕ) (s : State) (p : ℕ) → IsReached ops script ranks s → IsReached ops script ranks (move ops ranks s p)
reached-more ops script ranks s p r = record {
  order = r.order ++ p ∷ [];
  reached = moves-append ops ranks r.order (p ∷ []) (start_state script ranks) ∙ ap (λ u. move ops ranks u p) r.reached;
}

-- who can't move stays
pub goes_on-none : (ops : List Operation) (s : State) (p : ℕ) (r : Results) → step ops r (s p) ≡ None → s ≡ rank_goes_on ops s p r
goes_on-none ops s p r e = λ i q. goes_on_cases ops (λ j t. s j ≡ t) s p r (λ j. refl) (λ t f. cc (e, f)) q i

-- who knows more makes the same move
pub goes_on-same : (ops : List Operation) (s : State) (p : ℕ) (r more : Results) (t : Local) → step ops r (s p) ≡ Some t → step ops more (s p) ≡ Some t → rank_goes_on ops s p r ≡ rank_goes_on ops s p more
goes_on-same ops s p r more t e f = λ i q. by_rank (λ j. rank_goes_on ops s p r j ≡ rank_goes_on ops s p more j) p q (goes_on-at ops s p r t e ∙ sym (goes_on-at ops s p more t f)) (λ d. goes_on-other ops s p r q d ∙ sym (goes_on-other ops s p more q d)) i

-- A RANK'S DOINGS

module _ (ops : List Operation) (script : List (List Statement)) (ranks : ℕ) (s : System) (c : Couples ops script ranks s) where
  -- the rank moves, and its posts are made
  couples_move : (p : ℕ) → p < ranks → (new : WorldView) (added : List Made) (t : Local) → step ops (world_tells s.world p) (s.ranks p) ≡ Some t → t.made ≡ (s.ranks p).made ++ added → Follows p s.world new added
      → ((word : List ℕ) (name : Name) (birth : BirthView) → named t.bound word ≡ Some (Communicator name birth) → IsTrue (is_some ((new.each p).node.opened name)))
      → Couples ops script ranks (record { world = new; ranks = rank_goes_on ops s.ranks p (world_tells s.world p) })
  couples_move p l new added t e more f bound =
      let r = world_tells s.world p in
      let at : rank_goes_on ops s.ranks p r p ≡ t = goes_on-at ops s.ranks p r t e in
      let known_step : step ops (known ops ranks s.ranks p) (s.ranks p) ≡ Some t = step-grows ops r (known ops ranks s.ranks p) (tells_known ops script ranks s c p) (s.ranks p) t e in
      let told : (q : ℕ) → Within (world_tells s.world q) (world_tells new q) = tells_on s.world new f.later c.upheld f.upheld in
      record {
        upheld = f.upheld;
        size = sym f.later.ranks ∙ c.size;
        operations = sym f.later.operations ∙ c.operations;
        opened = λ q m. by_rank (λ j. (word : List ℕ) (name : Name) (birth : BirthView) → named (rank_goes_on ops s.ranks p r j).bound word ≡ Some (Communicator name birth) → IsTrue (is_some ((new.each j).node.opened name))) p q
            (λ word name birth h. bound word name birth (ap (λ (u : Local). named u.bound word) (sym at) ∙ h))
            (λ d word name birth h. (f.later.kept q).opened_kept name (c.opened q m word name birth (ap (λ (u : Local). named u.bound word) (sym (goes_on-other ops s.ranks p r q d)) ∙ h)));
        made = λ q. by_rank (λ j. (new.each j).made ≡ (rank_goes_on ops s.ranks p r j).made) p q
            (f.here ∙ ap (λ xs. xs ++ added) (c.made p) ∙ sym more ∙ ap (λ (u : Local). u.made) (sym at))
            (λ d. f.others q d ∙ c.made q ∙ ap (λ (u : Local). u.made) (sym (goes_on-other ops s.ranks p r q d)));
        relays = λ q above. by_rank (λ j. ranks ≤ j → (rank_goes_on ops s.ranks p r j).made ≡ []) p q
            (λ over. absurd (omega (arith, over, l)))
            (λ d over. ap (λ (u : Local). u.made) (goes_on-other ops s.ranks p r q d) ∙ c.relays q over) above;
        told = goes_on_cases ops (λ q u. CarriesOut ops (world_tells new q) (bound_at_start ranks) (statements_of script q) u) s.ranks p r
            (λ q. carries_out-grows ops (world_tells s.world q) (world_tells new q) (told q) (bound_at_start ranks) (statements_of script q) (s.ranks q) (c.told q))
            (λ u g. carries_out-grows ops r (world_tells new p) (told p) (bound_at_start ranks) (statements_of script p) u (step-carries_out ops r (bound_at_start ranks) (statements_of script p) (s.ranks p) u (c.told p) g));
        reached = subst (IsReached ops script ranks) (sym (goes_on-same ops s.ranks p r (known ops ranks s.ranks p) t e known_step)) (reached-more ops script ranks s.ranks p c.reached);
      }

  -- it has no move
  couples_stay : (p : ℕ) → step ops (world_tells s.world p) (s.ranks p) ≡ None → Couples ops script ranks (record { world = s.world; ranks = rank_goes_on ops s.ranks p (world_tells s.world p) })
  couples_stay p e = subst (λ u. Couples ops script ranks (record { world = s.world; ranks = u })) (goes_on-none ops s.ranks p (world_tells s.world p) e) c

  -- what goes on without a rank's move
  couples_net : (h : Happening) → IsPassive h → MayHappen s.world h → Couples ops script ranks (record { world = happens s.world h; ranks = s.ranks })
  couples_net h passive m =
      let net = passive_so h passive in
      let later = later_happens s.world h in
      let upheld = upheld_happens s.world h net.1 c.upheld m in
      record {
        upheld = upheld;
        size = sym later.ranks ∙ c.size;
        operations = sym later.operations ∙ c.operations;
        opened = λ p l word name birth e. (later.kept p).opened_kept name (c.opened p l word name birth e);
        made = λ p. made_happens s.world h net.0 p ∙ c.made p;
        relays = c.relays;
        told = λ p. carries_out-grows ops (world_tells s.world p) (world_tells (happens s.world h) p) (tells_on s.world (happens s.world h) later c.upheld upheld p) (bound_at_start ranks) (statements_of script p) (s.ranks p) (c.told p);
        reached = c.reached;
      }

  -- a word more, which is bound to what is opened, if to a communicator
  bound_more : (p : ℕ) → p < ranks → (new : WorldView) → Later s.world new → (target : Option (List ℕ)) (to : Bound) → ((name : Name) (birth : BirthView) → to ≡ Communicator name birth → IsTrue (is_some ((new.each p).node.opened name)))
      → (word : List ℕ) (name : Name) (birth : BirthView) → named (bind target to (s.ranks p).bound) word ≡ Some (Communicator name birth) → IsTrue (is_some ((new.each p).node.opened name))
  bound_more p l new later target to is word name birth e = elim (named-bound (s.ranks p).bound target to word (Communicator name birth) e) [
    | inl old ↦ (later.kept p).opened_kept name (c.opened p l word name birth old)
    | inr same ↦ is name birth same
  ]

  abbrev driven_to : (p : ℕ) → List Happening → System
  driven_to p hs = record { world = goes_on_world s.world hs; ranks = rank_goes_on ops s.ranks p (world_tells s.world p) }

  -- an accepted post, whose outcome is awaited or whose request is open from then on
  couples_accepted : (p : ℕ) → p < ranks → (posting : Posting) (rest : List Todo) → (s.ranks p).todo ≡ Do (Post posting) ∷ rest → (hs : List Happening) (m : Made) → attempt_at ops script ranks s c p posting ≡ Ok m → Driven s.world p hs (Ok m)
      → (request : Option (List ℕ)) → started_as posting ≡ request → Couples ops script ranks (driven_to p hs)
  couples_accepted p l posting rest e hs m f d None b =
      couples_move p l (goes_on_world s.world hs) (m ∷ []) (done (s.ranks p) (posted (s.ranks p) (bound_to posting) rest m))
      (step_posts ops (world_tells s.world p) (s.ranks p) posting rest m e b (attempts_same ops script ranks s c p posting ∙ f)) refl d.follows
      (λ word name birth h. (d.follows.later.kept p).opened_kept name (c.opened p l word name birth h))
  couples_accepted p l posting rest e hs m f d (Some request) b =
      couples_move p l (goes_on_world s.world hs) (m ∷ []) (done (s.ranks p) (started (s.ranks p) request rest m))
      (step_starts ops (world_tells s.world p) (s.ranks p) posting rest request m e b (attempts_same ops script ranks s c p posting ∙ f)) refl d.follows
      (λ word name birth h. (d.follows.later.kept p).opened_kept name (c.opened p l word name birth h))

  couples_posts : (p : ℕ) → p < ranks → (posting : Posting) (rest : List Todo) → (s.ranks p).todo ≡ Do (Post posting) ∷ rest → (hs : List Happening) (o : Result Made PostError) → attempt_at ops script ranks s c p posting ≡ o → Driven s.world p hs o → Couples ops script ranks (driven_to p hs)
  couples_posts p l posting rest e hs (Ok m) f d = couples_accepted p l posting rest e hs m f d (started_as posting) refl
  couples_posts p l posting rest e hs (Err refusal) f d =
      couples_move p l (goes_on_world s.world hs) [] (done (s.ranks p) (turned_down (s.ranks p) (bound_to posting) rest refusal))
      (step_refused ops (world_tells s.world p) (s.ranks p) posting rest refusal e (attempts_same ops script ranks s c p posting ∙ f)) refl d.follows
      (bound_more p l (goes_on_world s.world hs) d.follows.later (bound_to posting) NullCommunicator (λ name birth is. cc is))

  couples_asks : (p : ℕ) → p < ranks → (question : Question) (rest : List Todo) → (s.ranks p).todo ≡ Do (Ask question) ∷ rest → Couples ops script ranks (driven_to p [])
  couples_asks p l question rest e =
      couples_move p l s.world [] (done (s.ranks p) (told_at_once (s.ranks p) question rest))
      (step_asks ops (world_tells s.world p) (s.ranks p) question rest e) refl (follows_itself s.world c.upheld p)
      (c.opened p l)

  couples_passes : (p : ℕ) → p < ranks → (words : List (List ℕ)) (rest : List Todo) → (s.ranks p).todo ≡ Do (Wait words) ∷ rest → (o : Option (List Answer)) → answers (world_tells s.world p) (awaited_by (s.ranks p).requests words) ≡ o → Couples ops script ranks (driven_to p [])
  couples_passes p l words rest e None f = couples_stay p (step_stays ops (world_tells s.world p) (s.ranks p) words rest e f)
  couples_passes p l words rest e (Some told) f =
      couples_move p l s.world [] (done (s.ranks p) (waited (s.ranks p) words rest told))
      (step_passes ops (world_tells s.world p) (s.ranks p) words rest told e f) refl (follows_itself s.world c.upheld p)
      (c.opened p l)

  -- what an answer binds a word to is opened
  pub answer_opened : (p : ℕ) (from : Name) (call : ℕ) (answer : Answer) → world_tells s.world p from call ≡ Some answer → (name : Name) (birth : BirthView) → bound_by answer.outcome answer.born ≡ Communicator name birth → IsTrue (is_some ((s.world.each p).node.opened name))
  answer_opened p from call answer e name birth is =
      let found = tells_at s.world c.upheld p from call answer e in
      let given = given_by answer.outcome answer.born name birth is in
      (c.upheld.holds.processes p).opened_given from call found.0 found.1 name given.size given.rank (ap (λ (a : Answer). a.outcome) found.2 ∙ given.is)

  -- and its birth is told
  pub answer_born : (p : ℕ) (from : Name) (call : ℕ) (answer : Answer) → world_tells s.world p from call ≡ Some answer → (new : Name) (size rank : ℕ) → answer.outcome ≡ NewComm new size rank → (birth : BirthView) × (answer.born ≡ Some birth)
  answer_born p from call answer e new size rank is =
      let found = tells_at s.world c.upheld p from call answer e in
      let same : found.0.outcome ≡ NewComm new size rank = ap (λ (a : Answer). a.outcome) found.2 ∙ is in
      let x = is_there s.world c.upheld p new ((c.upheld.holds.processes p).opened_given from call found.0 found.1 new size rank same) in
      (x.birth, ap (λ (a : Answer). a.born) (sym found.2) ∙ ap (λ o. (answer_with (births s.world) o).born) same ∙ x.born)

  couples_hears : (p : ℕ) → p < ranks → (name : Name) (call : ℕ) (target : Option (List ℕ)) (rest : List Todo) → (s.ranks p).todo ≡ Await name call target ∷ rest → (o : Option Answer) → world_tells s.world p name call ≡ o → Couples ops script ranks (driven_to p [])
  couples_hears p l name call target rest e None f = couples_stay p (step_waits ops (world_tells s.world p) (s.ranks p) name call target rest e f)
  couples_hears p l name call target rest e (Some answer) f =
      couples_move p l s.world [] (done (s.ranks p) (heard (s.ranks p) name call target rest answer)) (step_hears ops (world_tells s.world p) (s.ranks p) name call target rest answer e f) refl (follows_itself s.world c.upheld p)
      (bound_more p l s.world (later_itself s.world) target (bound_by answer.outcome answer.born) (answer_opened p name call answer f))

  couples_drive : (p : ℕ) → p < ranks → (todo : List Todo) → (s.ranks p).todo ≡ todo → Couples ops script ranks (driven_to p (posts_of ops p (s.world.each p).made (s.ranks p).bound todo))
  couples_drive p l [] e = couples_stay p (step_ends ops (world_tells s.world p) (s.ranks p) e)
  couples_drive p l (Await name call target ∷ rest) e = couples_hears p l name call target rest e (world_tells s.world p name call) refl
  couples_drive p l (Do (Post posting) ∷ rest) e = couples_posts p l posting rest e _ (attempt_at ops script ranks s c p posting) refl (driven ops script ranks s c p l posting)
  couples_drive p l (Do (Wait words) ∷ rest) e = couples_passes p l words rest e (answers (world_tells s.world p) (awaited_by (s.ranks p).requests words)) refl
  couples_drive p l (Do (Ask question) ∷ rest) e = couples_asks p l question rest e

  pub couples_does : (d : Doing) → MayDo ranks s d → Couples ops script ranks (does s d)
  couples_does (Nets h) m = couples_net h m.0 m.1
  couples_does (Drives p) m =
      let after : List Operation → System = λ o. record {
        world = goes_on_world s.world (posts_of o p (s.world.each p).made (s.ranks p).bound (s.ranks p).todo);
        ranks = rank_goes_on o s.ranks p (world_tells s.world p);
      } in
      subst (λ o. Couples ops script ranks (after o)) (sym c.operations) (couples_drive p m (s.ranks p).todo refl)

  -- WHAT LINES TELL

  pub tells_results : (p : ℕ) → TellsResults (s.world.each p).node (s.ranks p)
  tells_results p i name call outcome e =
      let tells = carried_out-tell ops (world_tells s.world p) (bound_at_start ranks) (statements_of script p) (s.ranks p) (c.told p) i name call outcome e in
      let found = tells_at s.world c.upheld p name call tells.answer tells.known_as in
      let value = (c.upheld.holds.processes p).values name call found.0 found.1 in
      record { finished = found.0; held = found.1; is = ap (λ (a : Answer). a.outcome) found.2 ∙ tells.is; mine = ap (λ ms. slice_get (posts_on name ms) call) (sym (c.made p)) ∙ value.mine }

pub couples_all : (ops : List Operation) (script : List (List Statement)) (ranks : ℕ) (ds : List Doing) (s : System) → Couples ops script ranks s → MayDoAll ranks s ds → Couples ops script ranks (does_all s ds)
couples_all ops script ranks [] s c m = c
couples_all ops script ranks (d ∷ ds) s c m = couples_all ops script ranks ds (does s d) (couples_does ops script ranks s c d m.0) m.1

opened_first : (ranks p : ℕ) → p < ranks → IsTrue (is_some (opened_at_start p ranks []))
opened_first ranks p l =
    let below : nat_lt p ranks ≡ true = grind (arith, nat_tests, l) in
    ap (λ b. is_some (let o : Option OpenedView = cond (b && nat_lt p ranks) (Some fresh) None in o)) (name_itself [])
    ∙ ap (λ b. is_some (let o : Option OpenedView = cond b (Some fresh) None in o)) below

-- before any statement a word is bound to the world alone
bound_first : (ranks : ℕ) (b : Bool) (name : Name) (birth : BirthView) → (if b then Some (Communicator [] (world_of ranks)) else None) ≡ Some (Communicator name birth) → name ≡ []
bound_first ranks true name birth e = cc e
bound_first ranks false name birth e = cc e

pub couples_start : (ops : List Operation) (script : List (List Statement)) (ranks size : ℕ) → Couples ops script ranks (start_system ops script ranks size)
couples_start ops script ranks size = record {
  upheld = record { holds = holds_start ops ranks size; in_all = in_start ops ranks size; complete = λ q. all_start ranks size q };
  size = refl;
  operations = refl;
  opened = λ p l word name birth e. subst (λ n. IsTrue (is_some (opened_at_start p ranks n))) (sym (bound_first ranks (bytes_eq word (codes "world")) name birth e)) (opened_first ranks p l);
  made = λ p. refl;
  relays = λ p above. refl;
  told = λ p. inl (record { passed = []; left = statements_of script p; all = refl; todo = refl; passes = none });
  reached = record { order = []; reached = refl };
}
