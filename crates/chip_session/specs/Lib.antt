-- The definitions behind the contracts of chip_session (chosen by this project).
--     Tally        a reader or a writer, with the number of its failures
--     Writing      how much of a text was written
--     Lines        the complete lines of a script
--     Settings     the settings of a session
--     Session      a session: its lines, key events and settings; an edit of it, and the first
--                  refusal that applies
--     Refusals     the codes of refusals
--     Edits        the edits of the code, with their texts as lists of bytes
--     Text, MachineAnswers, Answers      the answer to each question
--     Pictures     the picture of the screen at a step
--     IsAnswer     whether a result is the answer, or the reason why there is none
--     Costs        the number of lines that an edit reads and encodes
--     Kept         the run that a bench keeps, and how much of it remains valid after a new image,
--                  an edit of the key events, or a question
--     Workbench    a bench as contracts see it, and how much of the run an edit keeps
--     Commands     the command on a line of a script
--     CommandView  the commands of the code, with their texts as lists of bytes
--     KeyFile      the key events of a file, each line read as a command
--     Transcript   the reply to each line of a script, and the transcript of the script
--     Serving      the bytes that `serve` reads and writes, for each way it can end
--     Tape         the tape of a seed
--     inner        the models as numbers, and definitions for private contracts: how far a script
--                  has been carried out, and how the parts of a kept run fit together
pub mod Tally
pub mod Writing
pub mod Lines
pub mod Settings
pub mod Refusals
pub mod Session
pub mod Edits
pub mod Answers
pub mod Costs
pub mod Commands
pub mod CommandView
pub mod Transcript
pub mod Serving
pub mod IsAnswer
pub mod Kept
pub mod MachineAnswers
pub mod Pictures
pub mod Text
pub mod Workbench
pub mod Tape
pub mod KeyFile
pub mod inner
