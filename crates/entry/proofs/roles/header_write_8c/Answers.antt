-- `entry::roles::header_write_8c`: what the call ensures, each parameter in its place. Rattle finds this by itself; it
-- is written out so that the edit acc_for_cc is refused at the two fields that it exchanges.
use Rattle.entry.proofs.roles.header_write_8c.Goals as goal

pub returns : goal.returns
returns c = c.kusikhut_header_write_8c.ensures
