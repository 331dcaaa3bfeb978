use Rattle.std.proofs.Common.{◌≡◌, true, refl}
use Rattle.strm_module.specs.Calm.{is_calm}
use Rattle.strm_chain_end.proofs.WaitLemmas.{calm-put}
use Rattle.strm_chain_end.proofs.end.StreamEnd.put_at_wire.Goals as goal

pub invariant_of-self-in-MPcproto : goal.invariant_of-self-in-MPcproto
invariant_of-self-in-MPcproto g c =
    let k = c.self.invariant in
    let calm : is_calm c.args.m.kind ≡ true = rw (← c.deref.ensures, ← c.behind-m.view_is, c.in-MPcproto.is) refl in
    record {
      room = k.room;
      few = k.few;
      head_fit = k.head_fit;
      drv_fit = rw c.put_in_list.ensures.marks k.drv_fit;
      fit = k.fit;
      waits = k.waits;
      calm = rw c.in_ok-put_in_list-in-MPcproto.ensures.ok (calm-put c.self.inside.drv.messages c.args.m calm k.calm);
    }

pub returns-in_ok-put_in_list-in-MPcproto-clause-same : goal.returns-in_ok-put_in_list-in-MPcproto-clause-same
returns-in_ok-put_in_list-in-MPcproto-clause-same g c =
    rw (← c.self.view_is)
    (record {
      is_open = refl;
      drv_marks = c.put_in_list.ensures.marks;
      modules = refl;
      ids = record { next = refl; pending = refl; kept = λ _. refl; asked = refl; answer = λ _. refl };
    })
