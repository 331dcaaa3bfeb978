-- The shape of a module: its name, its marks and its kind with its state (qinit(9S), module_info(9S)).
use Rattle.std.specs.Prelude.{◌≡◌, ℕ, ◌==◌, ◌&&◌, ◌||◌, nat_le, nat_lt, Bool, true, false, Option, Some, None, List, length, if◌then◌else◌, is_some, option_map, codes}
use Rattle.std.specs.Char.{is_ascii_alphanumeric}
use Rattle.std.specs.List.{list_all}
use Rattle.std.specs.Option.{option_or}
use Rattle.strm_msg.specs.declared.words.Side.{Side}
use Rattle.strm_msg.specs.declared.words.Side.TheVariants.{Rd, Wr}
use Rattle.strm_msg.specs.Marks.{WaterMarks}
use Rattle.strm_module.specs.declared.shape.Shape.{Shape}
use Rattle.strm_module.specs.declared.kind.TheConstants.{MOST_SPLIT}
use Rattle.strm_module.specs.declared.shape.TheConstants.{LONGEST_NAME}
use Rattle.strm_module.specs.declared.shape.MakeFault.{MakeFault}
use Rattle.strm_module.specs.declared.shape.MakeFault.TheVariants.{Name, Marks, Split}

-- the marks of a side's queue, where the module has a queue there
abbrev pub marks_on : {K : Type 0} → Shape K → Side → Option WaterMarks
marks_on s Rd = s.rd
marks_on s Wr = s.wr

-- whether the module queues ordinary messages of that side
abbrev pub queues_on : {K : Type 0} → Shape K → Side → Bool
queues_on s side = is_some (marks_on s side)

-- a letter, a digit or `_`
abbrev pub is_name_byte : ℕ → Bool
is_name_byte b = is_ascii_alphanumeric b || (b == 95)

-- 1 to 8 of these
abbrev pub is_name : List ℕ → Bool
is_name name = nat_le 1 (length name) && nat_le (length name) LONGEST_NAME && list_all is_name_byte name

-- the high mark and the low mark of a side, where there is a queue
abbrev pub MarkPair : Type 0
MarkPair = Option (ℕ × ℕ)

-- the low mark is below the high one
abbrev pub are_marks : MarkPair → Bool
are_marks None = true
are_marks (Some pair) = nat_lt pair.1 pair.0

abbrev pub marks_of : MarkPair → Option WaterMarks
marks_of pair = option_map (λ p. record { hi = p.0; lo = p.1 }) pair

-- the reason for which no module is made: the name is judged before the marks
abbrev pub make_fault : List ℕ → MarkPair → MarkPair → Option MakeFault
make_fault name rd wr =
    if is_name name then (if are_marks rd && are_marks wr then None else Some Marks) else Some Name

-- whether a module that splits may let this many bytes through at once
abbrev pub is_split : ℕ → Bool
is_split n = nat_le 1 n && nat_le n MOST_SPLIT

-- the reason for which no module that splits is made: the number of bytes is judged last
abbrev pub split_fault : List ℕ → MarkPair → MarkPair → ℕ → Option MakeFault
split_fault name rd wr n = option_or (make_fault name rd wr) (if is_split n then None else Some Split)

-- the number of a fault
abbrev pub make_fault_number : MakeFault → ℕ
make_fault_number Name = 1
make_fault_number Marks = 2
make_fault_number Split = 3

-- the text as which a fault is printed
abbrev pub make_fault_text : MakeFault → List ℕ
make_fault_text Name = codes "a module's name must be 1 to 8 letters, digits or `_`"
make_fault_text Marks = codes "the low mark of a queue must be below its high mark"
make_fault_text Split = codes "a module that splits must let through 1 to 4096 bytes at once"

-- the shape of a new module
abbrev pub new_shape : {K : Type 0} → ℕ → List ℕ → MarkPair → MarkPair → K → Shape K
new_shape serial name rd wr kind =
    record {
      serial = serial;
      name = record { items = name };
      rd = marks_of rd;
      wr = marks_of wr;
      noenable = false;
      kind = kind;
    }

-- the same module, with its service procedures left to the program (noenable(9F))
abbrev pub noenabled : {K : Type 0} → Shape K → Shape K
noenabled s = record s { noenable = true }

-- the same module with the same queues: only the state of its kind can differ
pub record IsSameModule {K : Type 0} (old new : Shape K) : Type 0 where
  pub serial : new.serial ≡ old.serial
  pub name : new.name ≡ old.name
  pub rd : new.rd ≡ old.rd
  pub wr : new.wr ≡ old.wr
  pub noenable : new.noenable ≡ old.noenable
