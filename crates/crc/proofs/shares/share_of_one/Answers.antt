-- `crc::shares::share_of_one` meets its contract: antt works out each share from the one before it and compares.
-- Assumes nothing.
use mathlib.Core.Path.{refl}
use native.Mathlib.Omega.{arith}
use Rattle.crc.specs.Check.{bit_in, bits_in, byte_in, reg_of}
use Rattle.crc.specs.CheckUpdate.{share_of}
use Rattle.crc.specs.declared.shares.TheConstants.{ONES}
use Rattle.crc.proofs.ShareLaws.{next_share, ones_listed}
use Rattle.crc.proofs.shares.share_of_one.Goals as goal

pub returns : goal.returns
unfolding bit_in bits_in byte_in reg_of share_of next_share
returns c = (ones_listed ONES refl refl tt).share c.args.distance (omega arith)
