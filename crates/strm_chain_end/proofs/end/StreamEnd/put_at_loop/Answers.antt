use Rattle.std.proofs.Common.{◌≡◌, true, refl}
use Rattle.strm_module.specs.Calm.{is_calm}
use Rattle.strm_chain_end.proofs.WaitLemmas.{calm-put, calm-kind}
use Rattle.strm_chain_end.proofs.end.StreamEnd.put_at_loop.Goals as goal

pub invariant_of-self-in-MData : goal.invariant_of-self-in-MData
invariant_of-self-in-MData g c =
    let k = c.self.invariant in
    let calm : is_calm c.args.m.kind ≡ true = rw (← c.deref.ensures, ← c.behind-m.view_is) (calm-kind c.behind-m.inside.kind c.in-MData.is) in
    record {
      room = k.room;
      few = k.few;
      head_fit = k.head_fit;
      drv_fit = rw c.put_in_list.ensures.marks k.drv_fit;
      fit = k.fit;
      waits = k.waits;
      calm = rw c.in_ok-put_in_list-in-MData.ensures.ok (calm-put c.self.inside.drv.messages c.args.m calm k.calm);
    }

pub returns-in_ok-put_in_list-in-MData-clause-same : goal.returns-in_ok-put_in_list-in-MData-clause-same
returns-in_ok-put_in_list-in-MData-clause-same g c =
    rw (← c.self.view_is)
    (record {
      is_open = refl;
      drv_marks = c.put_in_list.ensures.marks;
      modules = refl;
      ids = record { next = refl; pending = refl; kept = λ _. refl; asked = refl; answer = λ _. refl };
    })

pub returns-in-MFlush-clause-state : goal.returns-in-MFlush-clause-state
returns-in-MFlush-clause-state g c = rw (← c.deref.ensures, ← c.behind-m.view_is, c.in-MFlush.is) c.flush_driver.ensures.state

pub returns-in-MFlush-clause-sends : goal.returns-in-MFlush-clause-sends
returns-in-MFlush-clause-sends g c = rw (← c.deref.ensures, ← c.behind-m.view_is, c.in-MFlush.is) c.flush_back.ensures

pub returns-in-MFlush-clause-same : goal.returns-in-MFlush-clause-same
returns-in-MFlush-clause-same g c = c.flush_driver.ensures.same

pub returns-in-MFlush-clause-err : goal.returns-in-MFlush-clause-err
returns-in-MFlush-clause-err g c = tt

pub returns-in-MIoctl-clause-err : goal.returns-in-MIoctl-clause-err
returns-in-MIoctl-clause-err g c = tt

pub returns-in-MPcproto-clause-err : goal.returns-in-MPcproto-clause-err
returns-in-MPcproto-clause-err g c = tt

pub returns-in_default-clause-err : goal.returns-in_default-clause-err
returns-in_default-clause-err g c = tt
