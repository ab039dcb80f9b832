mod Found
mod CodePages
