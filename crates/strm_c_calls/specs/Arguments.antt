-- The requests that the arguments of a call make, or the reasons for which they make none.
use Rattle.std.specs.Prelude.{ℕ, ◌/◌, ◌%◌, nat_eq, min, Bool, Option, Some, None, Result, Ok, Err, List, [], length, if◌then◌else◌, option_map}
use Rattle.strm_msg.specs.Message.{Part}
use Rattle.strm_module.specs.Shape.{MarkPair, make_fault, is_split, new_shape, noenabled}
use Rattle.strm_module.specs.declared.shape.MakeFault.{MakeFault}
use Rattle.strm_module.specs.declared.kind.Kind.{Kind}
use Rattle.strm_module.specs.declared.kind.Kind.TheVariants as Kinds
use Rattle.strm_module.specs.declared.shape.Shape.{Shape}
use Rattle.strm_head_calls.specs.declared.parts.Parts.{Parts}
use Rattle.strm_head_calls.specs.declared.refusal.Refusal.{Refusal}
use Rattle.strm_head_calls.specs.declared.refusal.Refusal.TheVariants.{Invalid}
use Rattle.strm_head_calls.specs.declared.request.Priority.{Priority}
use Rattle.strm_head_calls.specs.declared.request.PutFlag.{PutFlag}
use Rattle.strm_head_calls.specs.declared.request.Request.{Request}
use Rattle.strm_head_calls.specs.declared.request.Request.TheVariants as Requests
use Rattle.strm_c_numbers.specs.Numbers.{band_of, sides_of, mode_of, prot_of}
use Rattle.strm_c_calls.specs.Codes.{priority_of, wanted_of, put_flag_of, get_flag_of, noenable_of}

-- a request, or the refusal of arguments that make none
abbrev pub RequestOrRefusal : Type 0
RequestOrRefusal = Result (Request (Shape Kind)) Refusal

-- the request of an argument that says something, or EINVAL if it says nothing
abbrev pub ask : {X : Type 0} → Option X → (X → RequestOrRefusal) → RequestOrRefusal
ask None asked = Err Invalid
ask (Some x) asked = asked x

abbrev pub part_argument : Bool → List ℕ → Part
part_argument has bytes = if has then Some bytes else None

abbrev pub parts_argument : Bool → List ℕ → Bool → List ℕ → Parts
parts_argument has_ctl ctl has_dat dat = record { ctl = part_argument has_ctl ctl; dat = part_argument has_dat dat }

-- the putmsg of parts, the putpmsg, and the ioctl of data
abbrev pub putmsg : Priority → Bool → List ℕ → Bool → List ℕ → Request (Shape Kind)
putmsg flag has_ctl ctl has_dat dat = Requests.Putmsg flag (parts_argument has_ctl ctl has_dat dat)

abbrev pub putpmsg : ℕ → PutFlag → Bool → List ℕ → Bool → List ℕ → Request (Shape Kind)
putpmsg band flag has_ctl ctl has_dat dat = Requests.Putpmsg band flag (parts_argument has_ctl ctl has_dat dat)

abbrev pub ioctl : ℕ → Bool → List ℕ → Request (Shape Kind)
ioctl cmd has_dat dat = Requests.Str cmd (part_argument has_dat dat)

-- the most bytes that the caller asks for: the length of the buffer, up to the greatest u16
abbrev pub most_of : Bool → List ℕ → Option ℕ
most_of has buffer = if has then Some (min (length buffer) 65535) else None

abbrev pub putmsg_of : Bool → List ℕ → Bool → List ℕ → ℕ → RequestOrRefusal
putmsg_of has_ctl ctl has_dat dat flags =
    ask (priority_of flags) (λ flag. Ok (putmsg flag has_ctl ctl has_dat dat))

abbrev pub putpmsg_of : Bool → List ℕ → Bool → List ℕ → ℕ → ℕ → RequestOrRefusal
putpmsg_of has_ctl ctl has_dat dat band flags =
    ask (put_flag_of flags) (λ flag. ask (band_of band) (λ b. Ok (putpmsg b flag has_ctl ctl has_dat dat)))

abbrev pub getmsg_of : Bool → List ℕ → Bool → List ℕ → ℕ → RequestOrRefusal
getmsg_of has_ctl ctl has_dat dat flags =
    ask (wanted_of flags) (λ flag. Ok (Requests.Getmsg (most_of has_ctl ctl) (most_of has_dat dat) flag))

abbrev pub getpmsg_of : Bool → List ℕ → Bool → List ℕ → ℕ → ℕ → RequestOrRefusal
getpmsg_of has_ctl ctl has_dat dat band flags =
    ask (get_flag_of flags) (λ flag. ask (band_of band) (λ b. Ok (Requests.Getpmsg (most_of has_ctl ctl) (most_of has_dat dat) b flag)))

abbrev pub peek_of : Bool → List ℕ → Bool → List ℕ → ℕ → RequestOrRefusal
peek_of has_ctl ctl has_dat dat flags =
    ask (wanted_of flags) (λ flag. Ok (Requests.Peek (most_of has_ctl ctl) (most_of has_dat dat) flag))

abbrev pub read_of : List ℕ → RequestOrRefusal
read_of buffer = Ok (Requests.Read (min (length buffer) 65535))

abbrev pub flush_of : ℕ → RequestOrRefusal
flush_of flags = ask (sides_of flags) (λ sides. Ok (Requests.Flush sides.0 sides.1))

abbrev pub flushband_of : ℕ → ℕ → RequestOrRefusal
flushband_of band flags = ask (sides_of flags) (λ sides. Ok (Requests.FlushBand band sides.0 sides.1))

-- the request that sets the mode and the treatment of control, by one number for both
abbrev pub setread_of : ℕ → RequestOrRefusal
setread_of n = ask (mode_of (n % 4)) (λ mode. ask (prot_of (n / 4)) (λ prot. Ok (Requests.SetRead mode prot)))

-- the kind of a number, with a further number; a table has 256 bytes, and no other kind asks for any
abbrev pub kind_of : ℕ → ℕ → List ℕ → Option Kind
kind_of kind number table =
    if nat_eq kind 0 then Some Kinds.Pass
    else if nat_eq kind 1 then (if nat_eq (length table) 256 then Some (Kinds.Table table) else None)
    else if nat_eq kind 2 then Some Kinds.CrNl
    else if nat_eq kind 3 then Some (Kinds.Line [])
    else if nat_eq kind 4 then Some (Kinds.Count 0)
    else if nat_eq kind 5 then option_map (λ b. Kinds.Band b) (band_of number)
    else if nat_eq kind 6 then Some Kinds.Tee
    else if nat_eq kind 7 then Some Kinds.Mute
    else if nat_eq kind 8 then (if is_split number then Some (Kinds.Split number) else None)
    else None

-- the marks of a side; it has no queue if the high mark is 0
abbrev pub marks_argument : ℕ → ℕ → MarkPair
marks_argument hi lo = if nat_eq hi 0 then None else Some (hi, lo)

-- the shape of a module of serial 0 with a name and marks that modules can have
abbrev pub shape_if : Option MakeFault → Shape Kind → Option (Shape Kind)
shape_if None shape = Some shape
shape_if (Some fault) shape = None

-- under noenable its service procedures are the program's
abbrev pub noenabled_if : Bool → Shape Kind → Shape Kind
noenabled_if noenable shape = if noenable then noenabled shape else shape

abbrev pub shape_of : List ℕ → MarkPair → MarkPair → Option Kind → Option Bool → Option (Shape Kind)
shape_of name rd wr None noenable = None
shape_of name rd wr (Some kind) None = None
shape_of name rd wr (Some kind) (Some noenable) = shape_if (make_fault name rd wr) (noenabled_if noenable (new_shape 0 name rd wr kind))

-- the push of a new module of a shape
abbrev pub push_of : Option (Shape Kind) → RequestOrRefusal
push_of shape = ask shape (λ it. Ok (Requests.Push it))

-- the push of a new module of a kind that a number names
abbrev pub push_kind_of : List ℕ → ℕ → ℕ → ℕ → ℕ → ℕ → ℕ → List ℕ → ℕ → RequestOrRefusal
push_kind_of name kind rd_hi rd_lo wr_hi wr_lo number table flags =
    push_of (shape_of name (marks_argument rd_hi rd_lo) (marks_argument wr_hi wr_lo) (kind_of kind number table) (noenable_of flags))
