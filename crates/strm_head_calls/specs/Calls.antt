-- Calls that change modules, and calls whose pushes carry one thing as calls whose pushes carry another.
use Rattle.std.specs.Prelude.{Bool, true, false, Option, Some, None}
use Rattle.strm_head_calls.specs.declared.request.Request.{Request}

-- the calls that may put a module in, or take some out
abbrev pub changes_modules : {P : Type 0} → Request P → Bool
changes_modules (Request.Push instance) = true
changes_modules Request.Pop = true
changes_modules Request.Close = true
changes_modules request = false

-- the module that a push carries
abbrev pub pushed_of : {P : Type 0} → Request P → Option P
pushed_of (Request.Push instance) = Some instance
pushed_of request = None

-- a call that is no push, whatever pushes carry
abbrev pub plain_of : {P Q : Type 0} → Request P → Option (Request Q)
plain_of (Request.Putmsg flag parts) = Some (Request.Putmsg flag parts)
plain_of (Request.Putpmsg band flag parts) = Some (Request.Putpmsg band flag parts)
plain_of (Request.Getmsg maxctl maxdat flag) = Some (Request.Getmsg maxctl maxdat flag)
plain_of (Request.Getpmsg maxctl maxdat band flag) = Some (Request.Getpmsg maxctl maxdat band flag)
plain_of (Request.Read max) = Some (Request.Read max)
plain_of (Request.Write dat) = Some (Request.Write dat)
plain_of (Request.Push instance) = None
plain_of Request.Nread = Some Request.Nread
plain_of (Request.Peek maxctl maxdat flag) = Some (Request.Peek maxctl maxdat flag)
plain_of (Request.SetRead mode prot) = Some (Request.SetRead mode prot)
plain_of Request.GetRead = Some Request.GetRead
plain_of (Request.Canput band) = Some (Request.Canput band)
plain_of (Request.Ckband band) = Some (Request.Ckband band)
plain_of Request.Getband = Some Request.Getband
plain_of Request.Pop = Some Request.Pop
plain_of Request.Look = Some Request.Look
plain_of Request.List = Some Request.List
plain_of (Request.Find name) = Some (Request.Find name)
plain_of (Request.Str cmd dat) = Some (Request.Str cmd dat)
plain_of (Request.Strput cmd dat) = Some (Request.Strput cmd dat)
plain_of (Request.Strget drops) = Some (Request.Strget drops)
plain_of (Request.Flush r w) = Some (Request.Flush r w)
plain_of (Request.FlushBand band r w) = Some (Request.FlushBand band r w)
plain_of (Request.Service name side call) = Some (Request.Service name side call)
plain_of Request.Close = Some Request.Close
plain_of Request.Take = Some Request.Take
plain_of (Request.Tick ticks) = Some (Request.Tick ticks)
plain_of Request.Poll = Some Request.Poll
