-- The codes of versions, kinds, modes, operations and types, and what may follow a byte that says which form a value has.
use Rattle.std.specs.Prelude.{ℕ, zero, suc, Bool, true, false, ◌&&◌, ◌||◌, nat_lt, Option, Some, None}
use Rattle.mpx_num.specs.declared.types.Ty.{Ty}
use Rattle.mpx_num.specs.declared.operations.Op.{Op}
use Rattle.mpx_kind.specs.declared.kinds.Kind.{Kind}
use Rattle.mpx_kind.specs.declared.kinds.Mode.{Mode}
use Rattle.mpx_kind.specs.declared.kinds.Mode.TheVariants.{Blocking, Nonblocking}
use Rattle.mpx_kind.specs.Kinds.{may_be}
use Rattle.mpx_kind.specs.Codes.{code_of_kind, kind_at}
use Rattle.mpx_num.specs.Codes.{code_of_operation, operation_at, code_of_type, type_at}
use Rattle.mpx_format.specs.declared.defects.Defect.TheVariants.{BadVersion}
use Rattle.mpx_format.specs.declared.versions.Version.{Version}
use Rattle.mpx_format.specs.declared.versions.Version.TheVariants.{One, Two}
use Rattle.mpx_format.specs.Format.{Format, nothing, byte, only, through, out_of_limits}

-- VERSIONS

abbrev pub code_of_version : Version → ℕ
code_of_version One = 1
code_of_version Two = 2

abbrev pub version_at : ℕ → Version
version_at zero = One
version_at (suc zero) = One
version_at (suc (suc n)) = Two

-- 1 or 2
abbrev pub version_byte : Format Version
version_byte = through version_at (λ v. Some (code_of_version v)) (only (λ bytes. BadVersion) (λ n. nat_lt 0 n && nat_lt n 3) byte)

-- KINDS AND MODES

-- how many kinds a version spells: the last one, by which a communicator is freed, came with version 2
abbrev pub kinds_in : Version → ℕ
kinds_in One = 26
kinds_in Two = 27

unfoldable pub kind : Version → Format Kind
kind version = through kind_at (λ k. Some (code_of_kind k)) (only out_of_limits (λ n. nat_lt n (kinds_in version)) byte)

abbrev pub code_of_mode : Mode → ℕ
code_of_mode Blocking = 0
code_of_mode Nonblocking = 1

abbrev pub mode_at : ℕ → Mode
mode_at zero = Blocking
mode_at (suc n) = Nonblocking

-- a mode of which calls of this kind may be: those that make communicators or free one only block
unfoldable pub mode : Kind → Format Mode
mode k = only out_of_limits (λ m. may_be m k) (through mode_at (λ m. Some (code_of_mode m)) (only out_of_limits (λ n. nat_lt n 2) byte))

-- OPERATIONS AND TYPES

-- the codes by which a version spells operations: 1 to 12 for the predefined ones, and from version 2 on 16 to 31 for those of
-- a job's own
abbrev pub is_operation_code : Version → ℕ → Bool
is_operation_code One n = nat_lt 0 n && nat_lt n 13
is_operation_code Two n = (nat_lt 0 n && nat_lt n 13) || (nat_lt 15 n && nat_lt n 32)

unfoldable pub operation : Version → Format Op
operation version = through operation_at (λ o. Some (code_of_operation o)) (only out_of_limits (is_operation_code version) byte)

unfoldable pub item_type : Format Ty
item_type = through type_at (λ t. Some (code_of_type t)) (only out_of_limits (λ n. nat_lt 0 n && nat_lt n 10) byte)

-- YES OR NO

abbrev pub code_of_flag : Bool → ℕ
code_of_flag false = 0
code_of_flag true = 1

abbrev pub flag_at : ℕ → Bool
flag_at zero = false
flag_at (suc n) = true

unfoldable pub flag : Format Bool
flag = through flag_at (λ b. Some (code_of_flag b)) (only out_of_limits (λ n. nat_lt n 2) byte)

-- VALUES THAT MAY BE MISSING

abbrev pub of_none : {A : Type 0} → Option A → Option (Unit {0})
of_none None = Some tt
of_none (Some a) = None

-- no bytes for the value that is missing
abbrev pub missing : {A : Type 0} → Format (Option A)
missing = through (λ u. None) of_none nothing

abbrev pub there : {A : Type 0} → Format A → Format (Option A)
there f = through Some (λ o. o) f

-- a value where there is one to be, as what came before tells
abbrev pub when : {A : Type 0} → Bool → Format A → Format (Option A)
when true f = there f
when false f = missing
