mod Costs
mod Left
mod Listed
mod Places
mod Refusals
