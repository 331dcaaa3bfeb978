-- The purpose of the bytes of a frame.
use Rattle.std.specs.Prelude.{◌≡◌, ℕ, ◌<◌, ◌^◌, Option, Some, None, List, slice_index}
use Rattle.port_arq.specs.declared.frame.Frame.{Frame}
use Rattle.port_arq.specs.declared.frame.Numbered.{Numbered}
use Rattle.port_arq.specs.Frame.{frame_bytes, frame_in}

-- the numbers of a frame are numbers of 32 bits
abbrev pub NumbersFit : Option Numbered → ℕ → Type 0
NumbersFit None awaited = awaited < 2 ^ 32
NumbersFit (Some message) awaited = (awaited < 2 ^ 32) × (message.number < 2 ^ 32)

-- a frame that is written as bytes is read as it was
abbrev pub FramesComeBack : Type 0
FramesComeBack =
    (frame : Frame) → NumbersFit frame.message frame.awaited → frame_in (frame_bytes frame) ≡ Some frame

-- and no other bytes are read as that frame
abbrev pub FramesHaveOneSpelling : Type 0
FramesHaveOneSpelling =
    (bytes : List ℕ) (frame : Frame) → ((i : ℕ) → slice_index bytes i < 256) → frame_in bytes ≡ Some frame →
    frame_bytes frame ≡ bytes
