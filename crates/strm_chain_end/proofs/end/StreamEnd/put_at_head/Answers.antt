use Rattle.std.proofs.Common.{◌≡◌, true, false, refl}
use Rattle.strm_msg.specs.declared.kind.MsgKind.TheVariants.{MFlush, MHangup, MError}
use Rattle.strm_chain_end.proofs.HeadLemmas.{open_does, closed_does}
use Rattle.strm_chain_end.proofs.end.StreamEnd.put_at_head.Goals as goal

pub returns-in-MFlush-clause-state : goal.returns-in-MFlush-clause-state
returns-in-MFlush-clause-state g c =
    let e = c.args.self.now.state in
    let opened : e.is_open ≡ true = rw (← c.self.view_is) c.if-not-self.false in
    let is : c.args.m.kind ≡ MFlush c.in-MFlush.r c.in-MFlush.w c.in-MFlush.band = rw (← c.deref.ensures, ← c.behind-m.view_is) c.in-MFlush.is in
    rw (open_does e c.args.m (MFlush c.in-MFlush.r c.in-MFlush.w c.in-MFlush.band) opened is, ← c.self.view_is, c.flush_list.ensures.messages, c.flush_list.ensures.marks) refl

pub returns-in-MFlush-clause-sends : goal.returns-in-MFlush-clause-sends
returns-in-MFlush-clause-sends g c =
    let e = c.args.self.now.state in
    let opened : e.is_open ≡ true = rw (← c.self.view_is) c.if-not-self.false in
    let is : c.args.m.kind ≡ MFlush c.in-MFlush.r c.in-MFlush.w c.in-MFlush.band = rw (← c.deref.ensures, ← c.behind-m.view_is) c.in-MFlush.is in
    rw (open_does e c.args.m (MFlush c.in-MFlush.r c.in-MFlush.w c.in-MFlush.band) opened is, c.flush_down.ensures) refl

pub returns-in-MHangup-clause-state : goal.returns-in-MHangup-clause-state
returns-in-MHangup-clause-state g c =
    let e = c.args.self.now.state in
    let opened : e.is_open ≡ true = rw (← c.self.view_is) c.if-not-self.false in
    let is : c.args.m.kind ≡ MHangup = rw (← c.deref.ensures, ← c.behind-m.view_is) c.in-MHangup.is in
    rw (open_does e c.args.m (MHangup) opened is, ← c.self.view_is) refl

pub returns-in-MHangup-clause-sends : goal.returns-in-MHangup-clause-sends
returns-in-MHangup-clause-sends g c =
    let e = c.args.self.now.state in
    let opened : e.is_open ≡ true = rw (← c.self.view_is) c.if-not-self.false in
    let is : c.args.m.kind ≡ MHangup = rw (← c.deref.ensures, ← c.behind-m.view_is) c.in-MHangup.is in
    rw (open_does e c.args.m (MHangup) opened is) refl

pub returns-in-MError-clause-state : goal.returns-in-MError-clause-state
returns-in-MError-clause-state g c =
    let e = c.args.self.now.state in
    let opened : e.is_open ≡ true = rw (← c.self.view_is) c.if-not-self.false in
    let is : c.args.m.kind ≡ MError c.in-MError.rd c.in-MError.wr = rw (← c.deref.ensures, ← c.behind-m.view_is) c.in-MError.is in
    rw (open_does e c.args.m (MError c.in-MError.rd c.in-MError.wr) opened is, ← c.self.view_is, c.set_errors.ensures) refl

pub returns-in-MError-clause-sends : goal.returns-in-MError-clause-sends
returns-in-MError-clause-sends g c =
    let e = c.args.self.now.state in
    let opened : e.is_open ≡ true = rw (← c.self.view_is) c.if-not-self.false in
    let is : c.args.m.kind ≡ MError c.in-MError.rd c.in-MError.wr = rw (← c.deref.ensures, ← c.behind-m.view_is) c.in-MError.is in
    rw (open_does e c.args.m (MError c.in-MError.rd c.in-MError.wr) opened is, c.error_flush.ensures) refl

pub returns-in-MFlush-clause-same : goal.returns-in-MFlush-clause-same
returns-in-MFlush-clause-same g c =
    rw (← c.self.view_is)
    (record {
      is_open = refl;
      drv_marks = refl;
      modules = refl;
      ids = record { next = refl; pending = refl; kept = λ _. refl; asked = refl; answer = λ _. refl };
    })

pub returns-in-MHangup-clause-same : goal.returns-in-MHangup-clause-same
returns-in-MHangup-clause-same g c =
    rw (← c.self.view_is)
    (record {
      is_open = refl;
      drv_marks = refl;
      modules = refl;
      ids = record { next = refl; pending = refl; kept = λ _. refl; asked = refl; answer = λ _. refl };
    })

pub returns-in-MIoctl-clause-same : goal.returns-in-MIoctl-clause-same
returns-in-MIoctl-clause-same g c =
    rw (← c.self.view_is)
    (record {
      is_open = refl;
      drv_marks = refl;
      modules = refl;
      ids = record { next = refl; pending = refl; kept = λ _. refl; asked = refl; answer = λ _. refl };
    })

pub returns-in-MData-clause-same : goal.returns-in-MData-clause-same
returns-in-MData-clause-same g c =
    rw (← c.self.view_is)
    (record {
      is_open = refl;
      drv_marks = refl;
      modules = refl;
      ids = record { next = refl; pending = refl; kept = λ _. refl; asked = refl; answer = λ _. refl };
    })

pub returns-then-not-has_pcproto-clause-same : goal.returns-then-not-has_pcproto-clause-same
returns-then-not-has_pcproto-clause-same g c =
    rw (← c.self.view_is)
    (record {
      is_open = refl;
      drv_marks = refl;
      modules = refl;
      ids = record { next = refl; pending = refl; kept = λ _. refl; asked = refl; answer = λ _. refl };
    })

pub returns-else-not-has_pcproto-clause-same : goal.returns-else-not-has_pcproto-clause-same
returns-else-not-has_pcproto-clause-same g c =
    rw (← c.self.view_is)
    (record {
      is_open = refl;
      drv_marks = refl;
      modules = refl;
      ids = record { next = refl; pending = refl; kept = λ _. refl; asked = refl; answer = λ _. refl };
    })

pub returns-in-MError-clause-same : goal.returns-in-MError-clause-same
returns-in-MError-clause-same g c =
    rw (← c.self.view_is)
    (record {
      is_open = refl;
      drv_marks = refl;
      modules = refl;
      ids = rw c.set_errors.ensures (record { next = refl; pending = refl; kept = λ _. refl; asked = refl; answer = λ _. refl });
    })

pub returns-in-MFlush-clause-err : goal.returns-in-MFlush-clause-err
returns-in-MFlush-clause-err g c = tt

pub returns-in-MHangup-clause-err : goal.returns-in-MHangup-clause-err
returns-in-MHangup-clause-err g c = tt

pub returns-in-MIoctl-clause-err : goal.returns-in-MIoctl-clause-err
returns-in-MIoctl-clause-err g c = tt

pub returns-in-MError-clause-err : goal.returns-in-MError-clause-err
returns-in-MError-clause-err g c = tt

pub returns-in-MSetopts-clause-err : goal.returns-in-MSetopts-clause-err
returns-in-MSetopts-clause-err g c = tt

pub returns-in-MIocack-clause-err : goal.returns-in-MIocack-clause-err
returns-in-MIocack-clause-err g c = tt

pub returns-then-not-self-clause-err : goal.returns-then-not-self-clause-err
returns-then-not-self-clause-err g c = tt

pub returns-else-not-has_pcproto-clause-err : goal.returns-else-not-has_pcproto-clause-err
returns-else-not-has_pcproto-clause-err g c = tt

pub returns-then-not-self-clause-state : goal.returns-then-not-self-clause-state
returns-then-not-self-clause-state g c =
    let e = c.args.self.now.state in
    let closed : e.is_open ≡ false = rw (← c.self.view_is) c.if-not-self.true in
    rw (closed_does e c.args.m closed, ← c.self.view_is) refl

pub returns-then-not-self-clause-sends : goal.returns-then-not-self-clause-sends
returns-then-not-self-clause-sends g c =
    let e = c.args.self.now.state in
    let closed : e.is_open ≡ false = rw (← c.self.view_is) c.if-not-self.true in
    rw (closed_does e c.args.m closed) refl
