-- What the walks over handles and parts share: both own the block of a `Box<Held>`.
use Rattle.std.proofs.Common.{lit<, w64}
use mir.Syntax.{impl, tnil, dnil}
use mathlib.Core.List.{[]}
use lib.Dec.{T}
use mir.Val.{Val, vint, vstruct, vnil, vcons, has_ty, WT}
use mir.Syntax.{ty_struct, tcons, ty_ptr}
use Rattle.strm_module.specs.declared.driver.Driver.TheVariants as Drivers
use Rattle.std_alloc.proofs.ResultValues.{and_tt}
use Rattle.std.proofs.alloc.Calls.{α, Fits}
use Rattle.strm_chain_ends.specs.Image.{fresh}
use denote.Signature.{Slot, plain}
use Rattle.std_alloc.proofs.BoxSteps.Form.{Bx}
use Rattle.std_heap.specs.contracts.Global as Heap
use Rattle.std_heap.specs.contracts.GlobalAllocator.TheImpl.{ghosts, dict}
use Rattle.std_heap.proofs.Global.TheLaws as heap
use Rattle.strm_c_calls.specs.contracts.held.Held as Held
use Rattle.strm_c_calls.proofs.held.Held.TheLaws as held
use Rattle.strm_c_calls.specs.contracts.parts.Parts as Parts
use Rattle.strm_c_calls.specs.contracts.handle.Handle as Handle

abbrev pub E : Bx
E = record { row = Held.the_row; laws = held.the_row_laws; al = record { row = Heap.the_row; laws = heap.the_row_laws; g = ghosts; d = dict; drops = impl [] tnil dnil } }

abbrev pub FromParts : Slot 0
FromParts = plain (λ _. Parts.the_row Held.the_row Heap.the_row ghosts)

abbrev pub FromHandle : Slot 0
FromHandle = plain (λ _. Handle.the_row)

abbrev pub FromGlobal : Slot 0
FromGlobal = plain (λ _. Heap.the_row)

-- what the ghost field of a closed handle is set to: some value, which nothing rests on
abbrev pub none_held : Held.the_row.Denot
none_held = record { stream = fresh Drivers.Echo (record { hi = 1; lo = 0 }) (record { hi = 1; lo = 0 }) }

pub null_typed : (E : Bx) (hv : Val) → Fits E.al hv → T (has_ty (ty_struct (Handle.the_type).name (tcons ty_ptr (tcons (α E.al) tnil))) (vstruct (vcons (vint w64 0) (vcons hv vnil)))) × WT (vstruct (vcons (vint w64 0) (vcons hv vnil)))
null_typed E hv fa = (and_tt (has_ty (α E.al) hv) fa.0, (record { fits = lit< tt }, (fa.1, tt)))
