-- Datagrams through SLIP modules.
use Rattle.std.proofs.Common.{ℕ, [], ◌++◌, refl, ap, sym, ◌∙◌, append-nil}
use Rattle.strm_msg.specs.Message.{data_msg}
use Rattle.strm_module.specs.Kinds.{Action}
use Rattle.port_slip.specs.Frame.{framed, Received, received}
use Rattle.port_slip.specs.Slip.{datagrams_up}
use Rattle.port_slip.specs.SlipLaws.{DatagramsGoThrough}
use Rattle.port_slip.specs.declared.kinds.SlipKind.{SlipKind}
use Rattle.port_slip.specs.declared.kinds.SlipKind.TheVariants.{Slip}
use Rattle.port_slip.proofs.FrameLemmas.{framed_is_received, noise_stays_apart}

abbrev goes_up : ℕ → Received → Action SlipKind
goes_up band all = record { kind = Slip all.kept band; outs = datagrams_up band all.datagrams }

pub datagrams_go_through : DatagramsGoThrough
datagrams_go_through bytes datagram last band d = (
  data_msg band (framed datagram),
  refl,
  ap (λ t. goes_up band (received 2 t)) (sym (append-nil (framed datagram)))
      ∙ ap (goes_up band) (framed_is_received 1 datagram [] d),
  λ noise s h.
      ap (λ t. goes_up band (received 2 (noise ++ t))) (sym (append-nil (framed datagram)))
      ∙ ap (goes_up band) (noise_stays_apart 0 noise datagram [] s h d),
)
