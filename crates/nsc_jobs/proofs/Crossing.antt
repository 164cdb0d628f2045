-- A list of jobs may be shared by threads where its jobs may go to other threads.
use denote.RattleType.{RattleType}
use denote.Param.Send.{IsSend, IsSync, sendable}
use Rattle.std.proofs.Crossing.{crosses}
use Rattle.nsc_jobs.specs.contracts.queue.Queue as queue
use Rattle.nsc_jobs.specs.contracts.job_list.JobList as job_list

queue-send : (T : RattleType) → IsSend T → IsSend (queue.the_row T)
queue-send T job = search (sendable, crosses) depth 30

pub job_list-sync : (T : RattleType) → IsSend T → IsSync (job_list.the_row T)
job_list-sync T job = search (sendable, crosses, queue-send) depth 30
