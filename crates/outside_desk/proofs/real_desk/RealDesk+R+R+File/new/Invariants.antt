use Rattle.std.proofs.Common.{None, []}
use Rattle.outside_desk.proofs.real_desk.RealDesk+R+R+File.new.Given as goal

-- nothing is supposed
abbrev pub ghost-any : goal.ghost-any
ghost-any g a = (None, [])
