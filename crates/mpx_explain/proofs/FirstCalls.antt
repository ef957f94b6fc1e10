-- Which calls come first where a rank waits, one asked-for call after the other.
use Rattle.std.proofs.Common.{◌≡◌, ◌<◌, ◌≤◌, ◌⊎◌, ℕ, zero, suc, ◌+◌, ◌-◌, nat_lt, ◌||◌, Bool, true, false, cond, List, [], ◌∷◌, ◌++◌, append-nil, drop, drop-cons, length, length-drop, map, Option, Some, None, Result, Ok, Err, inl, inr, arith, ap, refl, subst, sym, ◌∙◌}
use Rattle.std.specs.Prelude.{MatchOption, OnOk, is_some, slice_index_or}
use Rattle.std.specs.BTreeMap.{BTreeMap, Updates, get, is_at}
use Rattle.std.specs.List.{list_any}
use Rattle.std.specs.Map.{lookup}
use Rattle.std.specs.Option.{option_map, option_or, option_to_list}
use Rattle.std.proofs.lemmas.Bool.{lt-ltb}
use Rattle.std.proofs.lemmas.List.{map-append, nil_from_length}
use Rattle.std.proofs.lemmas.List.Folds.{list_any-append}
use Rattle.mpx_name.specs.Name.{Name, same_name}
use Rattle.mpx_name.specs.Order.{name_cmp, name_equality}
use Rattle.mpx_node.specs.Nodes.{NodeView, front_on}
use Rattle.mpx_meaning.specs.Ends.{Asked, asked_view}
use Rattle.mpx_meaning.specs.declared.end.AskedCall.{AskedCall}
use Rattle.mpx_eval.specs.Waiting.{MissingCallView}
use Rattle.mpx_eval.specs.declared.missing.MissingMember.{MissingMember}
use Rattle.mpx_explain.specs.Firsts.{HasLooked, is_told_in}
use Rattle.mpx_explain.specs.RunEnds.{FirstView, first_at, first_lacking, first_view, is_told_on, lacked_by, lacking_at, lacking_of, with_first, with_firsts, with_missing}
use Rattle.mpx_explain.specs.declared.ended.EndedRun.{EndedRun}
use Rattle.mpx_explain.specs.declared.firsts.EarlierCall.{EarlierCall}

some_is : {A : Type 0} (a b : A) → Some a ≡ Some b → a ≡ b
some_is a b is = cc

none_some : {A : Type 0} (a : A) → None ≡ Some a → ⊥
none_some a is = cc

-- THE FIRST CALL THAT LACKS POSTS

missing_name : (request : Option (List ℕ)) (name : Name) (call : ℕ) (members : List MissingMember) (c : MissingCallView) → with_missing request name call members ≡ Some c → c.name ≡ name
missing_name request name call [] c is = absurd (none_some c is)
missing_name request name call (member ∷ more) c is = ap (λ (x : MissingCallView). x.name) (sym (some_is _ c is))

unless_name : (past : Bool) (request : Option (List ℕ)) (name : Name) (call : ℕ) (members : List MissingMember) (c : MissingCallView) → cond past None (with_missing request name call members) ≡ Some c → c.name ≡ name
unless_name true request name call members c is = absurd (none_some c is)
unless_name false request name call members c is = missing_name request name call members c is

-- of two the first that is there
or_name : (one other : Option MissingCallView) (name : Name) (c : MissingCallView) → ((x : MissingCallView) → one ≡ Some x → x.name ≡ name) → ((x : MissingCallView) → other ≡ Some x → x.name ≡ name) → option_or one other ≡ Some c → c.name ≡ name
or_name None other name c this that is = that c is
or_name (Some x) other name c this that is = this c is

or_none : (one other : Option MissingCallView) → one ≡ None → other ≡ None → option_or one other ≡ None
or_none one other this that = ap (λ o. option_or o other) this ∙ that

or_kept : (one other : Option MissingCallView) (c : MissingCallView) → one ≡ Some c → option_or one other ≡ Some c
or_kept one other c is = ap (λ o. option_or o other) is

none_first : (one other : Option MissingCallView) → option_or one other ≡ None → one ≡ None
none_first None other is = refl
none_first (Some x) other is = absurd (none_some x (sym is))

module _ (run : EndedRun) (node : NodeView) (name : Name) where
  -- it is on the context
  pub first_lacking-name : (n : ℕ) (c : MissingCallView) → first_lacking run node name n ≡ Some c → c.name ≡ name
  first_lacking-name zero c is = absurd (none_some c is)
  first_lacking-name (suc n) c is =
      or_name (first_lacking run node name n) (lacking_at run node None name n) name c (first_lacking-name n) (λ x found. unless_name (nat_lt n (front_on node name)) None name n (lacked_by run node name n) x found) is

  -- a process has the results of the calls before its front
  pub none_below_front : (n : ℕ) → n ≤ front_on node name → first_lacking run node name n ≡ None
  none_below_front zero within = refl
  none_below_front (suc n) within =
      let less : n < front_on node name = omega (arith, within) in
      or_none (first_lacking run node name n) (lacking_at run node None name n) (none_below_front n (omega (arith, within)))
      (ap (λ (b : Bool). cond b None (with_missing None name n (lacked_by run node name n))) (lt-ltb n (front_on node name) less))

  -- none before its front
  pub front_is : (front : ℕ) → front ≡ front_on node name → first_lacking run node name front ≡ None
  front_is front is = none_below_front front (omega (arith, is))

  -- one call more
  pub none_more : (call : ℕ) → first_lacking run node name call ≡ None → lacking_at run node None name call ≡ None → first_lacking run node name (call + 1) ≡ None
  none_more call none here =
      let k : suc call ≡ call + 1 = omega arith in
      subst (λ (n : ℕ). first_lacking run node name n ≡ None) k (or_none (first_lacking run node name call) (lacking_at run node None name call) none here)

  none_added : (more m : ℕ) → first_lacking run node name (more + m) ≡ None → first_lacking run node name m ≡ None
  none_added zero m none = let k : 0 + m ≡ m = omega arith in subst (λ (n : ℕ). first_lacking run node name n ≡ None) k none
  none_added (suc more) m none =
      let k : suc more + m ≡ suc (more + m) = omega arith in
      none_added more m (none_first (first_lacking run node name (more + m)) (lacking_at run node None name (more + m)) (subst (λ (n : ℕ). first_lacking run node name n ≡ None) k none))

  -- fewer calls
  pub none_below : (n m : ℕ) → m ≤ n → first_lacking run node name n ≡ None → first_lacking run node name m ≡ None
  none_below n m less none = let k : n ≡ (n - m) + m = omega (arith, less) in none_added (n - m) m (subst (λ (x : ℕ). first_lacking run node name x ≡ None) k none)

  kept_added : (more m : ℕ) (c : MissingCallView) → first_lacking run node name m ≡ Some c → first_lacking run node name (more + m) ≡ Some c
  kept_added zero m c is = let k : m ≡ 0 + m = omega arith in subst (λ (n : ℕ). first_lacking run node name n ≡ Some c) k is
  kept_added (suc more) m c is =
      let k : suc (more + m) ≡ suc more + m = omega arith in
      subst (λ (n : ℕ). first_lacking run node name n ≡ Some c) k (or_kept (first_lacking run node name (more + m)) (lacking_at run node None name (more + m)) c (kept_added more m c is))

  kept_above : (n m : ℕ) (c : MissingCallView) → n ≤ m → first_lacking run node name n ≡ Some c → first_lacking run node name m ≡ Some c
  kept_above n m c less is = let k : (m - n) + n ≡ m = omega (arith, less) in subst (λ (x : ℕ). first_lacking run node name x ≡ Some c) k (kept_added (m - n) n c is)

  -- a call that is found is the first one
  pub first_found : {X : Type 0} (view : X → MissingCallView) (found : Option X) (call calls : ℕ) → is_some found ≡ true → option_map view found ≡ lacking_at run node None name call → first_lacking run node name call ≡ None → call < calls
      → option_map view found ≡ first_lacking run node name calls
  first_found view None call calls some is none less = cc
  first_found view (Some x) call calls some is none less =
      let here : first_lacking run node name (suc call) ≡ Some (view x) = ap (λ o. option_or o (lacking_at run node None name call)) none ∙ sym is in
      sym (kept_above (suc call) calls (view x) (omega (arith, less)) here)

  -- one that is looked at is none
  pub not_found : {X : Type 0} (view : X → MissingCallView) (found : Option X) (call : ℕ) → is_some found ≡ false → option_map view found ≡ lacking_at run node None name call → first_lacking run node name call ≡ None → first_lacking run node name (call + 1) ≡ None
  not_found view None call some is none = none_more call none (sym is)
  not_found view (Some x) call some is none = cc

  -- of two numbers of calls either
  pub none_either : (n one other : ℕ) → (n ≡ one) ⊎ (n ≡ other) → first_lacking run node name one ≡ None → first_lacking run node name other ≡ None → first_lacking run node name n ≡ None
  none_either n one other (inl is) this that = subst (λ (k : ℕ). first_lacking run node name k ≡ None) (sym is) this
  none_either n one other (inr is) this that = subst (λ (k : ℕ). first_lacking run node name k ≡ None) (sym is) that

-- HOW FAR CONTEXTS ARE LOOKED THROUGH

pub ok_then : {E : Type 0} (r : Result (Unit {0}) E) (P Q : Type 0) → (P → Q) → OnOk r P → OnOk r Q
ok_then (Ok done) P Q then is = then is
ok_then (Err e) P Q then is = tt

pub ok_so : {E : Type 0} (r : Result (Unit {0}) E) (P : Type 0) → P → OnOk r P
ok_so (Ok done) P is = is
ok_so (Err e) P is = tt

-- before this call none lacks posts, or one is told
pub looked_upto : (run : EndedRun) (node : NodeView) (name : Name) (upto : Option ℕ) (got : Option (Option ℕ)) → Some upto ≡ got → ((calls : ℕ) → got ≡ Some (Some calls) → first_lacking run node name calls ≡ None)
    → MatchOption upto (is_told_in got ≡ true) (λ from. (is_told_in got ≡ false) × (first_lacking run node name from ≡ None))
looked_upto run node name None got is none = ap is_told_in (sym is)
looked_upto run node name (Some from) got is none = (ap is_told_in (sym is), none from (sym is))

told_or : (b : Bool) (had : Option (Option ℕ)) (t : Bool) → t ≡ is_told_in had → (t || (b || false)) ≡ is_told_in (cond b (Some None) had)
told_or true had true is = refl
told_or true had false is = refl
told_or false had true is = is
told_or false had false is = is

untold_where : (b : Bool) (had : Option (Option ℕ)) (calls : ℕ) → (b ≡ true → is_told_in had ≡ false) → is_told_in had ≡ is_told_in (cond b (Some (Some calls)) had)
untold_where true had calls is = is refl
untold_where false had calls is = refl

none_told : (b : Bool) (had : Option (Option ℕ)) (calls : ℕ) → cond b (Some None) had ≡ Some (Some calls) → had ≡ Some (Some calls)
none_told true had calls is = cc
none_told false had calls is = is

new_or_had : (b : Bool) (had : Option (Option ℕ)) (calls n : ℕ) → cond b (Some (Some calls)) had ≡ Some (Some n) → ((b ≡ true) × (n ≡ calls)) ⊎ (had ≡ Some (Some n))
new_or_had true had calls n is = inl (refl, cc)
new_or_had false had calls n is = inr is

module _ (run : EndedRun) (node : NodeView) (told : List FirstView) (m : BTreeMap Name (Option ℕ)) where
  -- nothing is looked through
  pub looked_none : told ≡ [] → m.entries ≡ [] → HasLooked run node told m
  looked_none none empty =
      let nothing : (name : Name) → get name_cmp m name ≡ None = λ name. ap (lookup (is_at (name_cmp name))) empty in
      record {
        told = λ name. ap (is_told_on name) none ∙ ap is_told_in (sym (nothing name));
        none = λ name calls is. absurd (none_some (Some calls) (sym (nothing name) ∙ is));
      }

  -- one more is told
  pub looked_told : (n : BTreeMap Name (Option ℕ)) (name : Name) (f : FirstView) → HasLooked run node told m → f.call.name ≡ name → Updates name_cmp m n name (Some None) → HasLooked run node (told ++ f ∷ []) n
  looked_told n name f had on news = record {
    told = λ q.
        list_any-append (λ (x : FirstView). same_name x.call.name q) told (f ∷ [])
        ∙ ap (λ (k : Name). is_told_on q told || (same_name k q || false)) on
        ∙ told_or (same_name name q) (get name_cmp m q) (is_told_on q told) (had.told q)
        ∙ ap is_told_in (sym (news.0 q));
    none = λ q calls is. had.none q calls (none_told (same_name name q) (get name_cmp m q) calls (sym (news.0 q) ∙ is));
  }

  -- the same, as it is pushed
  pub looked_pushed : (place : ℕ × ℕ) (had new : List EarlierCall) (e : EarlierCall) (n : BTreeMap Name (Option ℕ)) (name key : Name) (calls : ℕ) (c : MissingCallView) → told ≡ map first_view had → HasLooked run node told m → new ≡ had ++ e ∷ [] → first_view e ≡ first_at place c
      → Some c ≡ first_lacking run node name calls → key ≡ name → Updates name_cmp m n key (Some None) → HasLooked run node (map first_view new) n
  looked_pushed place had new e n name key calls c are looked more is there same news =
      let on : (first_view e).call.name ≡ name = ap (λ (f : FirstView). f.call.name) is ∙ first_lacking-name run node name calls c (sym there) in
      let all : map first_view new ≡ told ++ first_view e ∷ [] = ap (map first_view) more ∙ map-append first_view had (e ∷ []) ∙ ap (λ (xs : List FirstView). xs ++ first_view e ∷ []) (sym are) in
      subst (λ (xs : List FirstView). HasLooked run node xs n) (sym all) (looked_told n name (first_view e) looked on (subst (λ (k : Name). Updates name_cmp m n k (Some None)) same news))

  more_by : (name q : Name) (calls n : ℕ) → HasLooked run node told m → first_lacking run node name calls ≡ None → ((same_name name q ≡ true) × (n ≡ calls)) ⊎ (get name_cmp m q ≡ Some (Some n)) → first_lacking run node q n ≡ None
  more_by name q calls n had none (inl (same, is)) =
      subst (λ (k : Name). first_lacking run node k n ≡ None) (name_equality.sound name q same) (subst (λ (k : ℕ). first_lacking run node name k ≡ None) (sym is) none)
  more_by name q calls n had none (inr is) = had.none q n is

  -- none is, up to this call
  pub looked_more : (n : BTreeMap Name (Option ℕ)) (name : Name) (calls : ℕ) → HasLooked run node told m → is_told_in (get name_cmp m name) ≡ false → first_lacking run node name calls ≡ None → Updates name_cmp m n name (Some (Some calls)) → HasLooked run node told n
  looked_more n name calls had untold none news = record {
    told = λ q.
        had.told q
        ∙ untold_where (same_name name q) (get name_cmp m q) calls (λ same. ap (λ (k : Name). is_told_in (get name_cmp m k)) (sym (name_equality.sound name q same)) ∙ untold)
        ∙ ap is_told_in (sym (news.0 q));
    none = λ q k is. more_by name q calls k had none (new_or_had (same_name name q) (get name_cmp m q) calls k (sym (news.0 q) ∙ is));
  }

-- WHAT IS TOLD

-- before a call that lacks posts itself nothing is
pub first_at_lacking : (run : EndedRun) (node : NodeView) (place : ℕ × ℕ) (told : List FirstView) (a : Asked) (c : MissingCallView) → lacking_at run node a.0 a.1.0 a.1.1 ≡ Some c → told ≡ with_first run node place told a
first_at_lacking run node place told a c is =
    sym (append-nil told)
    ∙ ap (λ (o : Option MissingCallView). told ++ option_to_list (option_map (first_at place) (cond (is_some o || is_told_on a.1.0 told) None (first_lacking run node a.1.0 a.1.1)))) (sym is)

pub none_lacking : (run : EndedRun) (node : NodeView) (a : Asked) (had : List MissingCallView) → lacking_at run node a.0 a.1.0 a.1.1 ≡ None → had ≡ had ++ lacking_of run node a
none_lacking run node a had none = sym (append-nil had) ∙ ap (λ (o : Option MissingCallView). had ++ option_to_list o) (sym none)

-- before another one the first call
pub first_at_other : (run : EndedRun) (node : NodeView) (place : ℕ × ℕ) (told new : List FirstView) (a : Asked) → lacking_at run node a.0 a.1.0 a.1.1 ≡ None
    → new ≡ told ++ option_to_list (option_map (first_at place) (cond (is_told_on a.1.0 told) None (first_lacking run node a.1.0 a.1.1))) → new ≡ with_first run node place told a
first_at_other run node place told new a none is =
    is ∙ ap (λ (o : Option MissingCallView). told ++ option_to_list (option_map (first_at place) (cond (is_some o || is_told_on a.1.0 told) None (first_lacking run node a.1.0 a.1.1)))) (sym none)

-- where one is told already, nothing is
pub nothing_before : (place : ℕ × ℕ) (told : List FirstView) (is : Bool) (first : Option MissingCallView) → is ≡ true → told ≡ told ++ option_to_list (option_map (first_at place) (cond is None first))
nothing_before place told is first holds = sym (append-nil told) ∙ ap (λ (b : Bool). told ++ option_to_list (option_map (first_at place) (cond b None first))) (sym holds)

pub something_before : (place : ℕ × ℕ) (told new : List FirstView) (is : Bool) (first : Option MissingCallView) → is ≡ false → new ≡ told ++ option_to_list (option_map (first_at place) first) → new ≡ told ++ option_to_list (option_map (first_at place) (cond is None first))
something_before place told new is first fails that = that ∙ ap (λ (b : Bool). told ++ option_to_list (option_map (first_at place) (cond b None first))) (sym fails)

-- one is told
pub told_first : (place : ℕ × ℕ) (had new : List EarlierCall) (e : EarlierCall) (c : MissingCallView) (first : Option MissingCallView) → new ≡ had ++ e ∷ [] → first_view e ≡ first_at place c → Some c ≡ first
    → map first_view new ≡ map first_view had ++ option_to_list (option_map (first_at place) first)
told_first place had new e c first more is there =
    ap (map first_view) more
    ∙ map-append first_view had (e ∷ [])
    ∙ ap (λ (f : FirstView). map first_view had ++ f ∷ []) is
    ∙ ap (λ (o : Option MissingCallView). map first_view had ++ option_to_list (option_map (first_at place) o)) there

-- none is
pub told_none : (place : ℕ × ℕ) (had : List FirstView) (first : Option MissingCallView) → None ≡ first → had ≡ had ++ option_to_list (option_map (first_at place) first)
told_none place had first none = sym (append-nil had) ∙ ap (λ (o : Option MissingCallView). had ++ option_to_list (option_map (first_at place) o)) none

-- ONE AFTER THE OTHER

-- one asked-for call more
pub firsts_more : (run : EndedRun) (node : NodeView) (place : ℕ × ℕ) (asked : List AskedCall) (i : ℕ) (item : AskedCall) (had new whole : List FirstView) → i < length asked → item ≡ slice_index_or asked i item
    → new ≡ with_first run node place had (asked_view item) → with_firsts run node place had (map asked_view (drop i asked)) ≡ whole → with_firsts run node place new (map asked_view (drop (i + 1) asked)) ≡ whole
firsts_more run node place asked i item had new whole within is told before =
    let k : suc i ≡ i + 1 = omega arith in
    let cut : drop i asked ≡ item ∷ drop (i + 1) asked = drop-cons asked i item within ∙ ap (λ (x : AskedCall). x ∷ drop (suc i) asked) (sym is) ∙ ap (λ (n : ℕ). item ∷ drop n asked) k in
    ap (λ (t : List FirstView). with_firsts run node place t (map asked_view (drop (i + 1) asked))) told
    ∙ ap (λ (xs : List AskedCall). with_firsts run node place had (map asked_view xs)) (sym cut)
    ∙ before

-- behind none
pub with_none_told : (run : EndedRun) (node : NodeView) (place : ℕ × ℕ) (told : List FirstView) (asked : List Asked) → told ≡ [] → with_firsts run node place told asked ≡ with_firsts run node place [] asked
with_none_told run node place told asked none = ap (λ (xs : List FirstView). with_firsts run node place xs asked) none

-- all of them
pub firsts_all : (run : EndedRun) (node : NodeView) (place : ℕ × ℕ) (asked : List AskedCall) (i : ℕ) (told : List EarlierCall) (old new : List EarlierCall) (whole : List FirstView) → length asked ≤ i → old ≡ [] → new ≡ old ++ told
    → with_firsts run node place (map first_view told) (map asked_view (drop i asked)) ≡ whole → map first_view new ≡ whole
firsts_all run node place asked i told old new whole passed empty is before =
    let end : drop i asked ≡ [] = nil_from_length (drop i asked) (omega (arith, passed, length-drop i asked)) in
    ap (map first_view) (is ∙ ap (λ (xs : List EarlierCall). xs ++ told) empty)
    ∙ ap (λ (xs : List AskedCall). with_firsts run node place (map first_view told) (map asked_view xs)) (sym end)
    ∙ before
