-- The moves of a rank whose table shows all posts.
use Rattle.std.proofs.Common.{◌≡◌, ℕ, ◌==◌, Bool, true, false, cond, List, [], ◌∷◌, ◌++◌, Option, Some, None, refl, sym, ap, ◌∙◌, subst}
use Rattle.std.specs.Prelude.{is_some, Ok}
use Rattle.std.proofs.lemmas.Bool.Decides.{Decides-eqb}
use Rattle.mpx_num.specs.declared.own.Operation.{Operation}
use Rattle.mpx_value.specs.Histories.{Made, Results, has_freed}
use Rattle.mpx_statement.specs.declared.statement.Posting.{Posting}
use Rattle.mpx_statement.specs.declared.statement.Statement.{Statement}
use Rattle.mpx_statement.specs.declared.statement.Statement.TheVariants.{Wait}
use Rattle.mpx_statement.specs.Statements.{communicator_word}
use Rattle.mpx_meaning.specs.Ranks.{Local, answers, awaited_by, doing, next_call, step}
use Rattle.mpx_meaning.specs.Evaluation.{State, known, move, or_stay}
use Rattle.mpx_meaning.proofs.Ends.{goes_on-at}
use Rattle.mpx_meaning.proofs.Standing.{none_there}
use Rattle.mpx_meaning.proofs.Steps.{step_ends, step_stays, step_waits}
use Rattle.mpx_meaning.specs.Standing.{WaitView, todo_of}
use Rattle.mpx_rank.specs.Carriers.{outcomes_of}
use Rattle.mpx_rank.specs.Moves.{Move, are_done}
use Rattle.mpx_rank.specs.Places.{CommunicatorView, StandsInScript, attempt_by}
use Rattle.mpx_rank.proofs.Stepping.{GoesBy, IsOn, move_keeps, move_steps}
use Rattle.mpx_rank.proofs.Words.{answers_done}
use Rattle.mpx_eval.specs.declared.table.Table.{Table as Held}
use Rattle.mpx_eval.specs.Carrying.{table_terms}
use Rattle.mpx_eval.specs.Places.{After, Before, IsBornSo, TableRank, posted_by}
use Rattle.mpx_eval.specs.Tables.{Posted, TableShows, Table, TableTries, answer_on, table_of, with_made}
use Rattle.mpx_eval.proofs.Outcomes.{results_same}
use Rattle.mpx_eval.proofs.Tables.{freed_shown}

module _ (ops : List Operation) where
  -- a rank without a move stays
  pub move_stays : (ranks : ℕ) (s : State) (p : ℕ) → step ops (known ops ranks s p) (s p) ≡ None → (q : ℕ) → move ops ranks s p q ≡ s q
  move_stays ranks s p e q = by_test (q == p) refl where
    by_test : (u : Bool) → (q == p) ≡ u → cond u (or_stay (s q) (step ops (known ops ranks s p) (s q))) (s q) ≡ s q
    by_test true f = subst (λ j. or_stay (s j) (step ops (known ops ranks s p) (s j)) ≡ s j) (sym ((Decides-eqb q p).0 f)) (ap (or_stay (s p)) e)
    by_test false f = refl

  module _ (ranks p : ℕ) (s : State) (r : TableRank) (t : Table) (b : Before ops ranks p r t s) where
    known_is : known ops ranks s p ≡ answer_on ops t r.me
    known_is = λ i name call. (sym (results_same ops ranks t (posted_by s) b.shows p name call) ∙ ap (λ me. answer_on ops t me name call) (sym b.me)) i

    -- NO MOVE

    stays : step ops (known ops ranks s p) (s p) ≡ None → After ops ranks p r t s false
    stays e = record {
      moves = sym (ap is_some e);
      me = b.me;
      stands = subst (StandsInScript r) (sym (move_stays ranks s p e p)) b.stands;
      shows = subst (TableShows ops ranks t) (λ i q. (sym (move_stays ranks s p e q) i).made) b.shows;
    }

    todo_is : (waits : Option WaitView) (todo : List Statement) → r.waits ≡ waits → r.todo ≡ todo → (s p).todo ≡ todo_of waits todo
    todo_is waits todo w e = b.stands.todo ∙ λ i. todo_of (w i) (e i)

    pub has_ended : r.waits ≡ None → r.todo ≡ [] → After ops ranks p r t s false
    has_ended w e = stays (step_ends ops (known ops ranks s p) (s p) (todo_is None [] w e))

    pub waits_still : (w : WaitView) → r.waits ≡ Some w → answer_on ops t r.me w.name w.call ≡ None → After ops ranks p r t s false
    waits_still w e none = stays (step_waits ops (known ops ranks s p) (s p) w.name w.call w.target (doing r.todo) (todo_is (Some w) r.todo e refl) (ap (λ (k : Results). k w.name w.call) known_is ∙ none))

    all_done : (words : List (List ℕ)) → is_some (answers (known ops ranks s p) (awaited_by (s p).requests words)) ≡ are_done (outcomes_of (answer_on ops t r.me)) r.requests words
    all_done words = answers_done (known ops ranks s p) words (s p).requests ∙ λ i. are_done (outcomes_of (known_is i)) (λ word. sym (b.stands.requests word) i) words

    pub passes_not : (words : List (List ℕ)) (rest : List Statement) → r.waits ≡ None → r.todo ≡ Wait words ∷ rest → are_done (outcomes_of (answer_on ops t r.me)) r.requests words ≡ false → After ops ranks p r t s false
    passes_not words rest w e f = stays (step_stays ops (known ops ranks s p) (s p) words (doing rest) (todo_is None (Wait words ∷ rest) w e) (none_there (answers (known ops ranks s p) (awaited_by (s p).requests words)) (all_done words ∙ f)))

  -- A MOVE

  module _ (ranks p : ℕ) (s : State) (r : TableRank) (c : Held) (b : Before ops ranks p r (table_of c) s) where
    -- the table shows all posts, when rank p stands there and the others where they stood
    abbrev ShowsWith : Local → Held → Type 0
    ShowsWith t d = TableShows ops ranks (table_of d) (λ q. cond (q == p) t.made (s q).made)

    shows_with : (made : Posted) (t : Local) (d : Held) → ((q : ℕ) → (q == p) ≡ true → made q ≡ t.made) → ((q : ℕ) → (q == p) ≡ false → made q ≡ (s q).made) → TableShows ops ranks (table_of d) made → ShowsWith t d
    shows_with made t d here there shows = subst (TableShows ops ranks (table_of d)) (λ i q. by_test q (q == p) refl i) shows where
      by_test : (q : ℕ) (u : Bool) → (q == p) ≡ u → made q ≡ cond u t.made (s q).made
      by_test q true e = here q e
      by_test q false e = there q e

    pub born_so : (posting : Posting) (on : Option CommunicatorView) → IsOn (s p) posting on → IsBornSo ops ranks (posted_by s) on
    born_so posting on is k e = b.born (communicator_word posting) k.0 k.1 (is k e)

    known_now : (d : Held) → d ≡ c → known ops ranks s p ≡ answer_on ops (table_of d) r.me
    known_now d e = known_is ranks p s r (table_of c) b ∙ ap (λ x. answer_on ops (table_of x) r.me) (sym e)

    quietly : (d : Held) (t : Local) → t.made ≡ (s p).made → TableShows ops ranks (table_of d) (posted_by s) → ShowsWith t d
    quietly d t same shows = shows_with (posted_by s) t d (λ q e. ap (λ j. (s j).made) ((Decides-eqb q p).0 e) ∙ sym same) (λ q e. refl) shows

    made_is : (s r.me).made ≡ (s p).made
    made_is = ap (λ j. (s j).made) b.me

    -- one post more
    one_more : (m : Made) (d : Held) (t : Local) → t.made ≡ (s p).made ++ m ∷ [] → TableShows ops ranks (table_of d) (with_made r.me m (posted_by s)) → ShowsWith t d
    one_more m d t same shows = shows_with (with_made p m (posted_by s)) t d
        (λ q e. ap (λ u. cond u ((s q).made ++ m ∷ []) (s q).made) e ∙ ap (λ j. (s j).made ++ m ∷ []) ((Decides-eqb q p).0 e) ∙ sym same)
        (λ q e. ap (λ u. cond u ((s q).made ++ m ∷ []) (s q).made) e)
        (subst (λ me. TableShows ops ranks (table_of d) (with_made me m (posted_by s))) b.me shows)

    table_goes : GoesBy ops (table_terms ops) (known ops ranks s p) r.me (s p) (λ d. d ≡ c) ShowsWith
    table_goes = record {
      hears = λ d e is h. h ∙ is;
      tells = λ d is name call outcome told. ap (λ (k : Results). outcomes_of k name call) (known_now d is) ∙ told;
      gives = λ d is name call to given. (given.0, ap (λ (k : Results). k name call) (known_now d is) ∙ given.1, given.2);
      closes = λ d is communicator. freed_shown ops ranks (table_of d) (posted_by s) (subst (λ x. TableShows ops ranks (table_of x) (posted_by s)) (sym is) b.shows) r.me communicator.0 ∙ ap (has_freed communicator.0) made_is;
      knows = λ d is communicator going. refl;
      quiet = λ d is t steps same. quietly d t same (subst (λ x. TableShows ops ranks (table_of x) (posted_by s)) (sym is) b.shows);
      posts = λ d e is posting rest next on there name call tried.
          let shows = subst (λ x. TableShows ops ranks (table_of x) (posted_by s)) (sym is) b.shows in
          let came : TableTries ops ranks (posted_by s) r.me (attempt_by ops r.me (s r.me).made posting on) (Ok (name, call)) (table_of e) = tried ranks (posted_by s) shows (born_so posting on there) in
          let m : Made = came.0 in (
            m,
            ap (λ made. attempt_by ops r.me made posting on) (sym made_is) ∙ came.1,
            came.2,
            came.3 ∙ ap (next_call m.name) made_is,
            λ t steps same. one_more m e t same came.4,
          );
      refuses = λ d e is posting rest next on there refusal other tried.
          let shows = subst (λ x. TableShows ops ranks (table_of x) (posted_by s)) (sym is) b.shows in
          let came = tried ranks (posted_by s) shows (born_so posting on there) other in (
            ap (λ made. attempt_by ops r.me made posting on) (sym made_is) ∙ came.0,
            λ t steps same. quietly e t same came.1,
          );
      not_now = λ d e is posting rest next on there tried. absurd tried;
    }

    -- the rank's move is one of the evaluation's
    pub move_is_one : (new : TableRank) (d : Held) → Move (table_terms ops) r c new d → After ops ranks p new (table_of d) s true
    move_is_one new d moves =
        let one = move_steps ops (table_terms ops) (known ops ranks s p) r (s p) b.stands (b.local_me ∙ sym b.me) (λ e. e ≡ c) ShowsWith table_goes c new d refl moves in
        record {
          moves = sym (ap is_some one.steps);
          me = move_keeps (table_terms ops) r c new d moves ∙ b.me;
          stands = subst (StandsInScript new) (sym (goes_on-at ops s p (known ops ranks s p) one.to one.steps)) one.stands;
          shows = subst (TableShows ops ranks (table_of d)) (λ i q. by_test one.to one.steps q (q == p) refl i) one.fits;
        } where
          by_test : (to : Local) → step ops (known ops ranks s p) (s p) ≡ Some to → (q : ℕ) (u : Bool) → (q == p) ≡ u → cond u to.made (s q).made ≡ (cond u (or_stay (s q) (step ops (known ops ranks s p) (s q))) (s q)).made
          by_test to e q true f = sym (subst (λ j. (or_stay (s j) (step ops (known ops ranks s p) (s j))).made ≡ to.made) (sym ((Decides-eqb q p).0 f)) (ap (λ o. (or_stay (s p) o).made) e))
          by_test to e q false f = refl
