use Rattle.strm_head_ioctl.proofs.polling.+has_open_band.Given as goal

abbrev pub decreases-has_open_band : goal.decreases-has_open_band
decreases-has_open_band l = l.band
