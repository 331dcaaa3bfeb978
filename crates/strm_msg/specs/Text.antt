-- The text that errors print, byte by byte.
use Rattle.std.specs.Prelude.{ℕ, List, codes}
use Rattle.strm_msg.specs.declared.errno.Errno.{Errno}
use Rattle.strm_msg.specs.declared.errno.Errno.TheVariants.{EBADF, ENOSR, EINVAL, ERANGE, ENXIO, EBADMSG, ENODATA, EAGAIN, ETIME, EIO, EPROTO}

-- the name in errno.h
abbrev pub name_of : Errno → List ℕ
name_of EBADF = codes "EBADF"
name_of ENOSR = codes "ENOSR"
name_of EINVAL = codes "EINVAL"
name_of ERANGE = codes "ERANGE"
name_of ENXIO = codes "ENXIO"
name_of EBADMSG = codes "EBADMSG"
name_of ENODATA = codes "ENODATA"
name_of EAGAIN = codes "EAGAIN"
name_of ETIME = codes "ETIME"
name_of EIO = codes "EIO"
name_of EPROTO = codes "EPROTO"

abbrev pub text_of_no_memory : List ℕ
text_of_no_memory = codes "no memory"
