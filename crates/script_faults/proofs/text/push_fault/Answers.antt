use Rattle.script_faults.proofs.text.push_fault.Goals as goal

pub returns-in-NoFile : goal.returns-in-NoFile
returns-in-NoFile c = rw c.in-NoFile.is (rw c.as_str-in-NoFile.ensures at c.push_words-in-NoFile.ensures)
