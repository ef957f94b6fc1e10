-- A post whose fields stand at the front.
use Rattle.std.proofs.Common.{◌≡◌, ℕ, ◌*◌, ℤ, Bool, true, false, List, [], ◌∷◌, ◌++◌, length, Option, Some, None, is_some, Ok, IfSome, refl, sym, ap, subst, ◌∙◌, append_assoc}
use Rattle.std.specs.Int.{w16}
use Rattle.std.specs.Bool.{OnTrue}
use Rattle.join_core.specs.Flat.{known}
use Rattle.mpx_num.specs.ItemList.{ItemList}
use Rattle.std.specs.List.{All, flat_map}
use Rattle.mpx_num.specs.Types.{IsInRange, item_len}
use Rattle.mpx_num.specs.Spelling.{bytes_of}
use Rattle.mpx_num.specs.Codes.{code_of_operation, code_of_type}
use Rattle.mpx_num.specs.declared.types.Ty.{Ty}
use Rattle.mpx_num.specs.declared.operations.Op.{Op}
use Rattle.mpx_num.proofs.Spellings.{IsBytes}
use Rattle.mpx_kind.specs.declared.kinds.Fields.{Fields}
use Rattle.mpx_kind.specs.declared.kinds.Kind.{Kind}
use Rattle.mpx_kind.specs.declared.kinds.Mode.{Mode}
use Rattle.mpx_kind.specs.declared.kinds.Makes.TheVariants as M
use Rattle.mpx_kind.specs.Kinds.{fields_of, is_had}
use Rattle.mpx_kind.specs.Codes.{code_of_kind}
use Rattle.mpx_post.specs.declared.making.Making.TheVariants.{Nothing}
use Rattle.mpx_post.specs.Posts.{Given, IsPost, NoneUnless, makes_of, type_of}
use Rattle.mpx_format.specs.declared.versions.Version.{Version}
use Rattle.mpx_format.specs.declared.versions.Version.TheVariants.{Two}
use Rattle.mpx_format.specs.Codes.{code_of_mode, kind, mode, operation, when}
use Rattle.mpx_format.specs.Fields.{process}
use Rattle.mpx_format.specs.Contexts.{posted}
use Rattle.mpx_format.specs.Format.{Format, byte, many_read, number}
use Rattle.mpx_format.specs.Posts.{count, counts, counts_if, given_from, integer, item_count, items as items_format, items_for, nums_of, post, type_for}
use Rattle.mpx_format.proofs.CodeLaws.{kind_laws, mode_laws, operation_laws, when_laws}
use Rattle.mpx_format.proofs.FieldLaws.{process_laws}
use Rattle.mpx_format.proofs.FormatLaws.{Exactly, IsBytes-after}
use Rattle.mpx_format.proofs.Integers.{numbers_stand}
use Rattle.mpx_format.proofs.PostLaws.{type_for_laws}
use Rattle.mpx_format.proofs.SpelledPosts.{had_operation_fits, had_type_fits, kind_fits, mode_fits, root_fits, type_spelled}
use Rattle.mpx_decode.specs.Fronts.{head_spelled, spelled_if}
use Rattle.mpx_decode.proofs.NearBytes.{counts_if_laws, left_bytes, read_on}
use Rattle.mpx_decode.proofs.PostLimits.{post_whole, type_in, whole}

pub on_true : {P : Type 0} (b : Bool) → b ≡ true → OnTrue b P → P
on_true true e h = h
on_true false e h = absurd cc

-- LISTS BEHIND THEIR COUNTS

pub no_counts : (had : Bool) (list bytes : List ℕ) → had ≡ false → NoneUnless had list → (counts_if had).read bytes ≡ Ok (list, bytes)
no_counts true list bytes e none = absurd cc
no_counts false list bytes e none = ap (λ (l : List ℕ). Ok (l, bytes)) (sym none)

pub counts_behind : {T : Type 0} (r : Option T) (left : T → List ℕ) (had : Bool) (list bytes after : List ℕ) (n : ℕ) → had ≡ true → (number w16).read bytes ≡ Ok (n, after) → n ≡ length list
    → IfSome r (λ x. many_read (λ before. count) (length list) [] after ≡ Ok (list, left x)) → IfSome r (λ x. (counts_if had).read bytes ≡ Ok (list, left x))
unfolding counts
counts_behind r left false list bytes after n e is same h = absurd cc
counts_behind None left true list bytes after n e is same h = tt
counts_behind (Some x) left true list bytes after n e is same h =
    let all : many_read (λ before. count) n [] after ≡ Ok (list, left x) = ap (λ (k : ℕ). many_read (λ before. count) k [] after) same ∙ h in
    rw (is, all) refl

nums_behind : {T : Type 0} (r : Option T) (left : T → List ℕ) (ty : Ty) (nums : List ℤ) (bytes after : List ℕ) (n : ℕ) → item_count.read bytes ≡ Ok (n, after) → n * item_len ty ≡ length nums
    → IfSome r (λ x. many_read (λ before. integer ty) (length nums) [] after ≡ Ok (nums, left x)) → IfSome r (λ x. (items_format ty).read bytes ≡ Ok (nums, left x))
unfolding items_format
nums_behind None left ty nums bytes after n is same h = tt
nums_behind (Some x) left ty nums bytes after n is same h =
    let all : many_read (λ before. integer ty) (n * item_len ty) [] after ≡ Ok (nums, left x) = ap (λ (k : ℕ). many_read (λ before. integer ty) k [] after) same ∙ h in
    rw (is, all) refl

-- the bytes of these numbers stand there
pub bytes_behind : {T : Type 0} (r : Option T) (left : T → List ℕ) (ty : Ty) (nums : List ℤ) (bytes after spelled : List ℕ) (n : ℕ) → item_count.read bytes ≡ Ok (n, after) → n * item_len ty ≡ length nums → spelled ≡ flat_map (bytes_of ty) nums → All (IsInRange ty) nums
    → IfSome r (λ x. after ≡ spelled ++ left x) → IfSome r (λ x. (items_format ty).read bytes ≡ Ok (nums, left x))
bytes_behind None left ty nums bytes after spelled n is same e h front = tt
bytes_behind (Some x) left ty nums bytes after spelled n is same e h front =
    let there : after ≡ flat_map (bytes_of ty) nums ++ left x = front ∙ ap (λ l. l ++ left x) e in
    nums_behind (Some x) left ty nums bytes after n is same (ap (many_read (λ before. integer ty) (length nums) []) there ∙ numbers_stand ty [] nums (left x) h)

-- a post behind the byte that says that it is known
pub told_behind : {T : Type 0} (r : Option T) (left : T → List ℕ) (version : Version) (g : Given) (bytes after : List ℕ) (n : ℕ) → byte.read bytes ≡ Ok (n, after) → n ≡ 1
    → IfSome r (λ x. (post version).read after ≡ Ok (g, left x)) → IfSome r (λ x. (posted version).read bytes ≡ Ok (known g, left x))
unfolding posted
told_behind None left version g bytes after n is one h = tt
told_behind (Some x) left version g bytes after n is one h =
    let form : byte.read bytes ≡ Ok (1, after) = is ∙ ap (λ (k : ℕ). Ok (k, after)) one in
    rw (form, h) refl

-- POSTS

-- the bytes of a field, read
field_there : {A : Type 0} {f : Format A} → Exactly f → (v : A) (front rest : List ℕ) → f.spelling v ≡ front → f.fits v ≡ true → f.read (front ++ rest) ≡ Ok (v, rest)
field_there {f = f} p v front rest spelled fits = ap (λ l. f.read (l ++ rest)) (sym spelled) ∙ p.again v rest fits

-- the byte of what may be missing
spelled_when : {A : Type 0} (had : Bool) (f : Format A) (code : A → ℕ) (o : Option A) → ((x : A) → f.spelling x ≡ code x ∷ []) → is_some o ≡ had → (when had f).spelling o ≡ spelled_if code o
spelled_when true f code None each e = absurd cc
spelled_when true f code (Some x) each e = each x
spelled_when false f code None each e = refl
spelled_when false f code (Some x) each e = absurd cc

-- there is a type where there are items
type_there : (items : Option ItemList) → is_some (type_in items) ≡ is_some items
type_there None = refl
type_there (Some i) = refl

kind_spelled : (k : Kind) → (kind Two).spelling k ≡ code_of_kind k ∷ []
unfolding kind
kind_spelled k = refl

mode_spelled : (k : Kind) (m : Mode) → (mode k).spelling m ≡ code_of_mode m ∷ []
unfolding mode
mode_spelled k m = refl

process_spelled : (p : ℕ) → process.spelling p ≡ p ∷ []
unfolding process
process_spelled p = refl

operation_spelled : (o : Op) → (operation Two).spelling o ≡ code_of_operation o ∷ []
unfolding operation
operation_spelled o = refl

module _ (g : Given) (limits : IsPost g) (none : g.making ≡ Nothing) where
  abbrev had : Fields
  had = fields_of g.kind

  abbrev root_bytes : List ℕ
  root_bytes = spelled_if (λ r. r) g.root

  abbrev op_bytes : List ℕ
  op_bytes = spelled_if code_of_operation g.op

  abbrev type_bytes : List ℕ
  type_bytes = spelled_if code_of_type (type_in g.items)

  root_read : (rest : List ℕ) → (when had.root process).read (root_bytes ++ rest) ≡ Ok (g.root, rest)
  root_read rest = field_there (when_laws had.root process_laws) g.root root_bytes rest (spelled_when had.root process (λ r. r) g.root process_spelled limits.root) (root_fits had.root g.root limits.root limits.root_below)

  op_read : (rest : List ℕ) → (when had.op (operation Two)).read (op_bytes ++ rest) ≡ Ok (g.op, rest)
  op_read rest = field_there (when_laws had.op (operation_laws Two)) g.op op_bytes rest (spelled_when had.op (operation Two) code_of_operation g.op operation_spelled limits.op) (had_operation_fits had.op g.op (type_of g) limits.op limits.type)

  type_read : (rest : List ℕ) → (when had.items (type_for g.op)).read (type_bytes ++ rest) ≡ Ok (type_in g.items, rest)
  type_read rest =
      field_there (when_laws had.items (type_for_laws g.op)) (type_in g.items) type_bytes rest (spelled_when had.items (type_for g.op) code_of_type (type_in g.items) (type_spelled g.op) (type_there g.items ∙ limits.items))
      (had_type_fits had.items g.op g.items limits.items limits.type)

  -- what stands behind the head is read as it stands
  post_read : (head sent got rest : List ℕ) → (counts_if (is_had had.scounts)).read head ≡ Ok (g.scounts, sent) → (counts_if (is_had had.rcounts)).read sent ≡ Ok (g.rcounts, got) → (items_for (type_in g.items)).read got ≡ Ok (nums_of g.items, rest)
      → (post Two).read (head_spelled g ++ head) ≡ Ok (g, rest)
  unfolding post
  post_read head sent got rest sent_read got_read items_read =
      let b3 = op_bytes ++ (type_bytes ++ head) in
      let b2 = root_bytes ++ b3 in
      let front : head_spelled g ++ head ≡ code_of_kind g.kind ∷ code_of_mode g.mode ∷ b2
      = ap (λ (l : List ℕ). code_of_kind g.kind ∷ code_of_mode g.mode ∷ l) (append_assoc root_bytes (op_bytes ++ type_bytes) head ∙ ap (λ (l : List ℕ). root_bytes ++ l) (append_assoc op_bytes type_bytes head)) in
      let kind_read : (kind Two).read (code_of_kind g.kind ∷ code_of_mode g.mode ∷ b2) ≡ Ok (g.kind, code_of_mode g.mode ∷ b2) = field_there (kind_laws Two) g.kind (code_of_kind g.kind ∷ []) (code_of_mode g.mode ∷ b2) (kind_spelled g.kind) (kind_fits g.kind) in
      let mode_read : (mode g.kind).read (code_of_mode g.mode ∷ b2) ≡ Ok (g.mode, b2) = field_there (mode_laws g.kind) g.mode (code_of_mode g.mode ∷ []) b2 (mode_spelled g.kind g.mode) (mode_fits g.kind g.mode limits.mode) in
      let makes : had.makes ≡ M.Nothing = sym limits.making.sort ∙ ap makes_of none in
      let raw : (post Two).read (code_of_kind g.kind ∷ code_of_mode g.mode ∷ b2) ≡ whole (given_from (g.kind, (g.mode, (g.root, (g.op, (type_in g.items, (g.scounts, (g.rcounts, (nums_of g.items, Nothing)))))))), rest)
      = rw (kind_read, mode_read, root_read b3, op_read (type_bytes ++ head), type_read head, sent_read, got_read, items_read, makes) refl in
      ap (post Two).read front
      ∙ raw
      ∙ (λ i. whole (given_from (g.kind, (g.mode, (g.root, (g.op, (type_in g.items, (g.scounts, (g.rcounts, (nums_of g.items, sym none i)))))))), rest))
      ∙ post_whole g.kind g.mode g.root g.op (type_in g.items) g.scounts g.rcounts g.items g.making rest refl

  module _ (bytes head sent got more : List ℕ) (are : IsBytes bytes) (front : bytes ≡ head_spelled g ++ head) (sent_read : (counts_if (is_had had.scounts)).read head ≡ Ok (g.scounts, sent)) (got_read : (counts_if (is_had had.rcounts)).read sent ≡ Ok (g.rcounts, got)) where
    -- and so it is where more bytes follow
    all_read : (rest : List ℕ) → (items_for (type_in g.items)).read (got ++ more) ≡ Ok (nums_of g.items, rest) → (post Two).read (bytes ++ more) ≡ Ok (g, rest)
    all_read rest items_read =
        let head_are = IsBytes-after (head_spelled g) head (subst IsBytes front are) in
        let sent_laws = counts_if_laws (is_had had.scounts) in
        let sent_are = left_bytes sent_laws head sent g.scounts head_are sent_read in
        ap (λ (l : List ℕ). (post Two).read (l ++ more)) front
        ∙ ap (post Two).read (append_assoc (head_spelled g) head more)
        ∙ post_read (head ++ more) (sent ++ more) (got ++ more) rest (read_on sent_laws head sent g.scounts head_are sent_read more) (read_on (counts_if_laws (is_had had.rcounts)) sent got g.rcounts sent_are got_read more) items_read

    -- there are no items
    pub none_behind : None ≡ g.items → (post Two).read (bytes ++ more) ≡ Ok (g, got ++ more)
    none_behind no_items = all_read (got ++ more) (ap (λ (o : Option ItemList). (items_for (type_in o)).read (got ++ more)) (sym no_items) ∙ ap (λ (o : Option ItemList). Ok (nums_of o, got ++ more)) no_items)

    -- and the items stand behind them
    pub items_behind : {T : Type 0} (r : Option T) (left : T → List ℕ) (i : ItemList) → Some i ≡ g.items → IfSome r (λ x. (items_format i.ty).read (got ++ more) ≡ Ok (i.nums, left x)) → IfSome r (λ x. (post Two).read (bytes ++ more) ≡ Ok (g, left x))
    items_behind None left i some h = tt
    items_behind (Some x) left i some h = all_read (left x) (ap (λ (o : Option ItemList). (items_for (type_in o)).read (got ++ more)) (sym some) ∙ h ∙ ap (λ (o : Option ItemList). Ok (nums_of o, left x)) some)
