-- The store of a setup as a machine of secrecy, and the links of that setup.
use Rattle.std.specs.Prelude.{◌≡◌, true}
use Rattle.secrecy.specs.Machine.{Machine}
use Rattle.secrecy.specs.Views.{Policy}
use Rattle.rules.specs.Entries.{ran}
use Rattle.rules.specs.Links.{desk_of_call, linked}
use Rattle.rules.specs.declared.Numbers.{Numbers}
use Rattle.rules.specs.declared.Setup.{Setup}
use Rattle.rules.specs.declared.Store.{Store}
use Rattle.rules.specs.declared.Answer.{Answer}

-- an act is four numbers, whatever they are: a refusal is an answer too
abbrev pub machine : Setup → Machine
machine s =
    record {
      State = Store;
      Act = Numbers;
      Answer = Answer;
      desk = desk_of_call s;
      step = λ m n. (ran s m n).store;
      answer = λ m n. (ran s m n).answer;
    }

abbrev pub linked_to : Setup → Policy
linked_to s d e = linked s d e ≡ true
