-- A setup handed in as bytes, as the rules speak of it: the four counts, and what the three slices hold.
use Rattle.rules.specs.Setups.{SetupBytes, setup_bytes}
use Rattle.judging.specs.declared.accepting.SetupBytes as declared

abbrev pub bytes_of : declared.SetupBytes → SetupBytes
bytes_of given =
    setup_bytes given.desks given.classes given.processes given.files given.rights.now given.desk.now given.class.now
