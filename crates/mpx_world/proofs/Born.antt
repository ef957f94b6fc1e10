-- What calls and gatherings make is born, and is opened where it was given.
use Rattle.std.proofs.Common.{◌≡◌, ℕ, ◌==◌, Bool, true, false, cond, ◌&&◌, List, ◌∷◌, length, Option, Some, None, refl, sym, ap, ◌∙◌, subst, ℤ}
use Rattle.std.specs.Prelude.{slice_get, Result, Ok, Err, option_and_then}
use Rattle.std.specs.Option.{option_map}
use Rattle.std.proofs.lemmas.Bool.{and_from}
use Rattle.std.proofs.lemmas.List.Folds.{list_any_at}
use Rattle.std.proofs.lemmas.List.Quantifiers.{position-Some}
use Rattle.std.proofs.lemmas.Option.{option_and_then_some, slice_get-map}
use Rattle.join_core.specs.Flat.{known}
use Rattle.mpx_group.specs.Group.{has}
use Rattle.mpx_name.specs.declared.steps.Step.TheVariants.{Child}
use Rattle.mpx_name.specs.Name.{Name, same_name}
use Rattle.mpx_num.specs.declared.own.Operation.{Operation}
use Rattle.mpx_birth.specs.Births.{BirthView, of_members, rank_in}
use Rattle.mpx_post.specs.Gatherings.{GatheringView, gathering}
use Rattle.mpx_post.specs.declared.draft.PostError.{PostError}
use Rattle.mpx_post.specs.declared.draft.PostError.TheVariants.{Closed}
use Rattle.mpx_post.specs.Rows.{RowView, all_of}
use Rattle.mpx_board.specs.Boards.{Look, told, row_on, only, Born}
use Rattle.mpx_value.specs.declared.outcomes.Outcome.TheVariants.{NewComm}
use Rattle.mpx_value.specs.Children.{ChildView, children, child, named_children, IsNewCommunicator}
use Rattle.mpx_value.specs.Histories.{History, row_of, child_of, gathered, birth_of, value_for}
use Rattle.mpx_value.proofs.Growth.{then_some, all_of-grows}
use Rattle.mpx_value.proofs.NewCommunicators.{children_exact, new_communicator}
use Rattle.mpx_node.specs.declared.finished.Finished.{Finished}
use Rattle.mpx_node.specs.Nodes.{NodeView, OpenedView, outcome_on, result_of, or_none, children_on, births_of, is_new_to, gathers_by, gathers_there, gathers_on, gathering_name}
use Rattle.mpx_world.specs.Worlds.{WorldView, history, births}
use Rattle.mpx_world.proofs.Lists.{any_at, name_itself}
use Rattle.mpx_world.proofs.Truth.{LookSo, born_so, told_agrees}
use Rattle.mpx_value.proofs.Histories.{gathered_there}

pub option_map_some : {A B P : Type 0} (f : A → B) (o : Option A) (y : B) → option_map f o ≡ Some y → ((x : A) → o ≡ Some x → f x ≡ y → P) → P
option_map_some f None y e k = cc e
option_map_some f (Some x) y e k = k x refl (cc e)

-- a row on a board whose birth is known is that of the members' posts
pub row_told : (board : Look) (name : Name) (k : ℕ) (birth : BirthView) (row : RowView) → told (board.contexts name).birth ≡ Some birth → row_on board name k ≡ Some row → all_of (λ q. told ((board.contexts name).posts k q)) birth.members ≡ Some row
row_told board name k birth row eb er = ap (option_and_then (λ (b : BirthView). all_of (λ q. told ((board.contexts name).posts k q)) b.members)) (sym eb) ∙ er

-- on a board that tells the truth it is whole
pub row_whole : (w : WorldView) (board : Look) (name : Name) (k : ℕ) (birth : BirthView) (row : RowView) → LookSo w board → told (board.contexts name).birth ≡ Some birth → row_on board name k ≡ Some row → row_of (history w) name birth k ≡ Some row
row_whole w board name k birth row s eb er =
    all_of-grows (λ q. told ((board.contexts name).posts k q)) ((history w).post name k) (λ q x h. told_agrees ((board.contexts name).posts k q) ((history w).post name k q) x ((s.contexts_so name).posts_so k q) h) birth.members row (row_told board name k birth row eb er)

-- CHILDREN

-- what a whole row makes is born
child_born : (h : History) (ranks : ℕ) (parent : Name) (call colour : ℕ) (birth made : BirthView) (row : RowView) → birth_of h ranks parent ≡ Some birth → row_of h parent birth call ≡ Some row → child h.operations birth row parent call colour ≡ Some made → birth_of h ranks (Child call colour ∷ parent) ≡ Some made
child_born h ranks parent call colour birth made row eb er em =
    then_some (child_of h parent call colour) (birth_of h ranks parent) birth made eb (then_some (λ x. child h.operations birth x parent call colour) (row_of h parent birth call) row made er em)

or_none_is : {A : Type 0} (o : Option (List A)) (i : ℕ) (x : A) → slice_get (or_none o) i ≡ Some x → (xs : List A) × (o ≡ Some xs) × (slice_get xs i ≡ Some x)
or_none_is None i x e = cc e
or_none_is (Some xs) i x e = (xs, refl, e)

named_born : (w : WorldView) (name : Name) (k : ℕ) (made : List ChildView) → ((i : ℕ) (x : ChildView) → slice_get made i ≡ Some x → births w (Child k x.colour ∷ name) ≡ Some x.birth) → (i : ℕ) (y : Name × BirthView) → slice_get (named_children name k made) i ≡ Some y → births w y.0 ≡ Some y.1
named_born w name k made born i y e =
    option_map_some (λ (x : ChildView). let z : Name × BirthView = (Child k x.colour ∷ name, x.birth) in z) (slice_get made i) y (sym (slice_get-map (λ (x : ChildView). let z : Name × BirthView = (Child k x.colour ∷ name, x.birth) in z) made i) ∙ e)
    (λ x is same. subst (λ (z : Name × BirthView). births w z.0 ≡ Some z.1) same (born i x is))

-- what a board that tells the truth makes of a call is born
pub children_born : (w : WorldView) (board : Look) (name : Name) (k : ℕ) → LookSo w board → (i : ℕ) (y : Name × BirthView) → slice_get (children_on w.operations board name k) i ≡ Some y → births w y.0 ≡ Some y.1
children_born w board name k s i y e =
    let some = or_none_is (option_and_then (λ birth. option_map (λ row. named_children name k (children w.operations birth row name k)) (row_on board name k)) (told (board.contexts name).birth)) i y e in
    option_and_then_some _ (told (board.contexts name).birth) some.0 some.1 (λ birth eb f.
    option_map_some (λ row. named_children name k (children w.operations birth row name k)) (row_on board name k) some.0 f (λ row er same.
    named_born w name k (children w.operations birth row name k)
    (λ j x is. child_born (history w) w.ranks name k x.colour birth x.birth row
    (told_agrees (board.contexts name).birth (births w name) birth (s.contexts_so name).birth_so eb)
    (row_whole w board name k birth row s eb er)
    (children_exact w.operations birth row name k j x is))
    i y (subst (λ xs. slice_get xs i ≡ Some y) (sym same) some.2)))

-- and to tell so is true
pub births_so : (w : WorldView) (made : List (Name × BirthView)) → ((i : ℕ) (y : Name × BirthView) → slice_get made i ≡ Some y → births w y.0 ≡ Some y.1) → (i : ℕ) (b : Look) → slice_get (births_of made) i ≡ Some b → LookSo w b
births_so w made born i b e =
    option_map_some (λ (x : Name × BirthView). only (Born x.0 (known x.1))) (slice_get made i) b (sym (slice_get-map (λ (x : Name × BirthView). only (Born x.0 (known x.1))) made i) ∙ e)
    (λ y is same. subst (LookSo w) same (born_so w y.0 y.1 (born i y is)))

-- who has a rank is there
ranked_has : (p : ℕ) (ps : List ℕ) (rank : ℕ) → rank_in p ps ≡ Some rank → has ps p ≡ true
ranked_has p ps rank e =
    let at = position-Some (λ q. q == p) ps rank 0 e in
    list_any_at (λ q. q == p) ps rank 0 at.0 at.1

-- the new communicator that a result gives a process is new to it
pub given_is_new : (ops : List Operation) (board : Look) (name : Name) (me k : ℕ) (finished : Finished) (new : Name) (size rank : ℕ) → result_of ops board name me k ≡ Some finished → finished.outcome ≡ NewComm new size rank → is_new_to me (children_on ops board name k) new ≡ true
given_is_new ops board name me k finished new size rank e given =
    option_and_then_some _ (told ((board.contexts name).posts k me)) finished e (λ mine em f.
    option_map_some _ (outcome_on ops board name me k) finished f (λ outcome eo same.
    option_and_then_some _ (told (board.contexts name).birth) outcome eo (λ birth eb r.
    option_and_then_some (λ row. value_for ops birth me row name k) (row_on board name k) outcome r (λ row er ev.
    let is : outcome ≡ NewComm new size rank = ap (λ (x : Finished). x.outcome) same ∙ given in
    let i : IsNewCommunicator ops birth row name k me new size rank = new_communicator ops birth me row name k new size rank (ev ∙ ap Some is) in
    let made : List (Name × BirthView) = named_children name k (children ops birth row name k) in
    let y : Name × BirthView = (Child k i.child.colour ∷ name, i.child.birth) in
    let among : slice_get made i.place ≡ Some y = slice_get-map (λ (x : ChildView). let z : Name × BirthView = (Child k x.colour ∷ name, x.birth) in z) (children ops birth row name k) i.place ∙ ap (option_map (λ (x : ChildView). let z : Name × BirthView = (Child k x.colour ∷ name, x.birth) in z)) i.among in
    let listed : children_on ops board name k ≡ made =
    ap or_none (ap (option_and_then (λ b. option_map (λ row. named_children name k (children ops b row name k)) (row_on board name k))) eb
    ∙ ap (option_map (λ row. named_children name k (children ops birth row name k))) er) in
    let new_to : is_new_to me made new ≡ true = any_at (λ (x : Name × BirthView). same_name new x.0 && has x.1.members me) made i.place y among
    (and_from _ _ (ap (same_name new) (sym i.named) ∙ name_itself new) (ranked_has me i.child.birth.members rank i.member)) in
    ap (λ xs. is_new_to me xs new) listed ∙ new_to))))

-- GATHERINGS

there_is : (o : Option BirthView) (me : ℕ) (parent : Name) (tag : ℤ) (ranks : List ℤ) (g : GatheringView) → gathers_there o me parent tag ranks ≡ Ok g → (birth : BirthView) × (o ≡ Some birth) × (gathering birth me (length parent) false tag ranks ≡ Ok g)
there_is None me parent tag ranks g e = cc e
there_is (Some birth) me parent tag ranks g e = (birth, refl, e)

not_closed : (freed : Bool) (r : Result GatheringView PostError) (g : GatheringView) → (let x : Result GatheringView PostError = cond freed (Err Closed) r in x) ≡ Ok g → r ≡ Ok g
not_closed true r g e = cc e
not_closed false r g e = e

-- what a node is told of a gathering that isn't refused: the parent is opened, its birth known, and the gathering accepted
pub gathers_is : (x : Option OpenedView) (o : Option BirthView) (me : ℕ) (parent : Name) (tag : ℤ) (ranks : List ℤ) (g : GatheringView) → gathers_by x o me parent tag ranks ≡ Ok g → (birth : BirthView) × (o ≡ Some birth) × (gathering birth me (length parent) false tag ranks ≡ Ok g)
gathers_is None o me parent tag ranks g e = cc e
gathers_is (Some v) o me parent tag ranks g e = there_is o me parent tag ranks g (not_closed v.freed (gathers_there o me parent tag ranks) g e)

-- what a board that tells the truth lets gather is born
pub gathering_born : (w : WorldView) (node : NodeView) (parent : Name) (tag : ℤ) (ranks : List ℤ) (g : GatheringView) → LookSo w node.board → gathers_on node parent tag ranks ≡ Ok g → births w (gathering_name parent g) ≡ Some (of_members g.members)
gathering_born w node parent tag ranks g s e =
    let is = gathers_is (node.opened parent) (told (node.board.contexts parent).birth) node.me parent tag ranks g e in
    then_some (gathered g.members) (births w parent) is.0 (of_members g.members)
    (told_agrees (node.board.contexts parent).birth (births w parent) is.0 (s.contexts_so parent).birth_so is.1)
    (gathered_there is.0 node.me (length parent) false tag ranks g is.2)
