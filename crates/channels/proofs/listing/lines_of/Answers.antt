-- antt counts the lines of each band.
use Rattle.std.proofs.Common.{rules}
use Rattle.channels.specs.Table21.{table, entry_of}
use Rattle.channels.specs.Listing.{channels_up_to, lines_from}
use Rattle.channels.proofs.listing.lines_of.Goals as goal

pub returns-in-Some-A : goal.returns-in-Some-A
unfolding channels_up_to lines_from entry_of table
returns-in-Some-A c = search rules

pub returns-in-Some-B : goal.returns-in-Some-B
unfolding channels_up_to lines_from entry_of table
returns-in-Some-B c = search rules

pub returns-in-Some-C : goal.returns-in-Some-C
unfolding channels_up_to lines_from entry_of table
returns-in-Some-C c = search rules

pub returns-in-Some-D : goal.returns-in-Some-D
unfolding channels_up_to lines_from entry_of table
returns-in-Some-D c = search rules

pub returns-in-None : goal.returns-in-None
unfolding channels_up_to lines_from entry_of table
returns-in-None c = search rules
