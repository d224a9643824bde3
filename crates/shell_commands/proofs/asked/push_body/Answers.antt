-- The lines of a request's body: what `push_lines` of its record ensures, rewritten by the case of the request.
use Rattle.shell_commands.proofs.asked.push_body.Goals as goal

pub returns-in-Exists : goal.returns-in-Exists
returns-in-Exists g c = rw c.in-Exists.is c.push_lines.ensures

pub returns-in-GetData : goal.returns-in-GetData
returns-in-GetData g c = rw c.in-GetData.is c.push_lines-in-GetData.ensures

pub returns-in-GetChildren : goal.returns-in-GetChildren
returns-in-GetChildren g c = rw c.in-GetChildren.is c.push_lines-in-GetChildren.ensures

pub returns-in-GetChildren2 : goal.returns-in-GetChildren2
returns-in-GetChildren2 g c = rw c.in-GetChildren2.is c.push_lines-in-GetChildren2.ensures

pub returns-in-SetData : goal.returns-in-SetData
returns-in-SetData g c = rw c.in-SetData.is c.push_lines-in-SetData.ensures

pub returns-in-Create : goal.returns-in-Create
returns-in-Create g c = rw c.in-Create.is c.push_lines-in-Create.ensures

pub returns-in-Delete : goal.returns-in-Delete
returns-in-Delete g c = rw c.in-Delete.is c.push_lines-in-Delete.ensures

pub returns-in-SetWatches : goal.returns-in-SetWatches
returns-in-SetWatches g c = rw c.in-SetWatches.is c.push_lines-in-SetWatches.ensures
